use Rattle.std.proofs.Common.{arith, map}
use Rattle.std.proofs.lemmas.List.{length-map}
use Rattle.pv_model.specs.PlainForms.{plain_token}
use Rattle.pv_productive.specs.PlainForms.{dtd_of}
use Rattle.pv_missing.specs.PlainForms.{plain_of}
use Rattle.pv_span.proofs.KnownSites.{owner_has}
use Rattle.pv_complete.proofs.TableEntries.{all_entries}
use Rattle.pv_complete.proofs.missing.lists.wanted_entries.Goals as goal

pub overflow_cast-tokens : goal.overflow_cast-tokens
overflow_cast-tokens c =
    let l = c.requires.long (plain_of c.args.owner.now.of) (owner_has c.args.owner.now) in let m = simp length-map at l in let s = c.args.spans.now.chart.short in omega arith

pub entries_of-requires : goal.entries_of-requires
entries_of-requires c =
    let l = c.requires.long (plain_of c.args.owner.now.of) (owner_has c.args.owner.now) in let m =
    simp length-map at l in let s = c.args.spans.now.chart.short in
    record { tokens = (omega arith, omega arith) }

pub returns-in-Ok : goal.returns-in-Ok
returns-in-Ok c =
    rw c.of.ensures (all_entries (dtd_of c.args.owner.now.layout.now.grammar.now) (map plain_token c.args.word.now) c.args.spans.now c.requires c.in-Ok.entries.items c.in-Ok.ensures.listed)
