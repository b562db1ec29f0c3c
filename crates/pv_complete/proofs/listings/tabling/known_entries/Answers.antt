use Rattle.std.proofs.Common.{arith, length, map, ◌≡◌}
use Rattle.std.proofs.lemmas.List.{length-map}
use Rattle.pv_model.specs.PlainForms.{plain_token}
use Rattle.pv_productive.specs.PlainForms.{dtd_of}
use Rattle.pv_complete.proofs.listings.tabling.known_entries.Goals as goal

pub returns-then-entries-room-clause-refused : goal.returns-then-entries-room-clause-refused
returns-then-entries-room-clause-refused c =
    let all = c.in-Some.ensures (dtd_of c.args.owner.now.layout.now.grammar.now) c.requires.known in
    record { entries = c.in-Some.entries.now; are_entries = all.0.are; more = omega arith }

pub returns-clause-entries : goal.returns-clause-entries
returns-clause-entries c =
    let all = c.in-Some.ensures (dtd_of c.args.owner.now.layout.now.grammar.now) c.requires.known in
    rw c.in_ok-copy.ensures.items all.0

pub returns-clause-few : goal.returns-clause-few
returns-clause-few c = rw c.in_ok-copy.ensures.items (omega arith)

pub returns-clause-fits : goal.returns-clause-fits
returns-clause-fits c =
    let all = c.in-Some.ensures (dtd_of c.args.owner.now.layout.now.grammar.now) c.requires.known in
    let n : length c.args.word.now ≡ length (map plain_token c.args.word.now) = simp length-map in
    rw n all.1
