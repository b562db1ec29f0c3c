use Rattle.std.proofs.Common.{refl, false, true, ◌≡◌}
use Rattle.std.proofs.lemmas.Bool.{iff_false}
use Rattle.pv_read.specs.PlainReferences.{IsReferenceOf}
use Rattle.pv_chars.proofs.MeansLemmas.{not_empty, is_nothing}
use Rattle.pv_read.proofs.KnownReferences.{are_references, same_of_sort}
use Rattle.pv_read.proofs.Pieces.{front_literals, none_is_made, made_of_literals, made_before, made_behind}
use Rattle.pv_read.proofs.forms.values.are_pieces.Goals as goal

pub returns-then-not-are_literals : goal.returns-then-not-are_literals
returns-then-not-are_literals c =
    let sort = c.args.references in
    let never = iff_false c.are_literals.ensures c.if-not-are_literals.true in (
      (λ t. let no : false ≡ true = t in cc),
      (λ made. absurd (never (front_literals (IsReferenceOf sort) (are_references sort)
          c.references.rest.now c.cut_before.result.0.now c.cut_before.result.1.now
          c.cut_before.ensures (c.references.invariant.needed made)))),
    )

pub returns-then-is_empty : goal.returns-then-is_empty
returns-then-is_empty c =
    let sort = c.args.references in
    let more = c.cut_before.result.1.now in
    let made = made_of_literals (IsReferenceOf sort) (are_references sort) c.references.rest.now
    c.cut_before.result.0.now more c.cut_before.ensures (is_nothing more c.is_empty.result
    c.is_empty.ensures c.if-is_empty.true) (c.are_literals.ensures.0 c.if-not-are_literals.false) in
    ((λ t. c.references.invariant.enough made), (λ m. refl))

pub references-preserved : goal.references-preserved
references-preserved c =
    let sort = c.args.references in
    let rest = c.references.rest.now in
    let before = c.cut_before.result.0.now in
    let more = c.cut_before.result.1.now in
    let behind = c.in-Some.behind.now in
    record {
      enough = λ made. c.references.invariant.enough (made_before (IsReferenceOf sort)
          (are_references sort) rest before more behind c.cut_before.ensures
          (c.are_literals.ensures.0 c.if-not-are_literals.false) c.in-Some.ensures made);
      needed = λ made. made_behind (IsReferenceOf sort) (are_references sort) (same_of_sort sort) rest before more behind c.cut_before.ensures c.in-Some.ensures (c.references.invariant.needed made);
    }

pub returns-in-None : goal.returns-in-None
returns-in-None c =
    let sort = c.args.references in
    let more = c.cut_before.result.1.now in (
      (λ t. let no : false ≡ true = t in cc),
      (λ made. absurd (none_is_made (IsReferenceOf sort) (are_references sort) c.references.rest.now
          c.cut_before.result.0.now more c.cut_before.ensures (not_empty more c.is_empty.result
          c.is_empty.ensures c.if-is_empty.false) c.in-None.ensures (c.references.invariant.needed made))),
    )
