use Rattle.std.proofs.Common.{ap, length, map, sym, ◌∙◌, ◌≡◌}
use Rattle.std.proofs.lemmas.List.{length-map}
use Rattle.pv_model.specs.PlainForms.{plain_token}
use Rattle.pv_productive.specs.PlainForms.{dtd_of}
use Rattle.pv_complete.proofs.missing.lists.known_weight.Goals as goal

pub returns-in-Some-clause-fits : goal.returns-in-Some-clause-fits
returns-in-Some-clause-fits c =
    let w = c.in-Some.ensures (dtd_of c.args.owner.now.layout.now.grammar.now) c.requires.known in
    let n : length c.args.word ≡ length (map plain_token c.args.word) = simp length-map in
    let same : length (map plain_token c.as_slice.result.now) ≡ length c.args.word = ap (λ v. length (map plain_token v)) c.as_slice.ensures ∙ sym n in
    rw same at w.fits

pub returns-in-Ok-clause-known : goal.returns-in-Ok-clause-known
returns-in-Ok-clause-known c =
    let n : length c.args.word ≡ length (map plain_token c.args.word) = simp length-map in
    c.keep.ensures (dtd_of c.args.owner.now.layout.now.grammar.now) c.requires.known (record {
      weighs = record {
        weight = rw c.as_slice-2.ensures at c.in-Ok.ensures.weight;
        fits = rw (c.as_slice-2.ensures, n) at c.in-Ok.ensures.fits;
      };
      writes = rw c.as_slice-2.ensures at c.in-Ok.ensures.pieces;
      lists = rw c.as_slice-2.ensures at c.in-Ok.ensures.table;
    })
