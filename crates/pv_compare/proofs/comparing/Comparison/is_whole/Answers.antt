use Rattle.std.proofs.Common.{ap, false, length, sym, true, ◌∙◌, ◌≡◌}
use Rattle.std.proofs.lemmas.Bool.{eq-eqb, eqb-true}
use Rattle.std.proofs.lemmas.List.{nil_from_length}
use Rattle.pv_compare.proofs.ComparedEvents.{none-behind, nothing-wanted, was-same, whole}
use Rattle.pv_compare.proofs.comparing.Comparison.is_whole.Goals as goal
use Rattle.pv_compare.proofs.comparing.Comparison.is_whole.Goals.{else-self, then-self}

pub returns-then-is_empty : goal.returns-then-is_empty
returns-then-is_empty c = λ marks other given i.
    elim c.if-self.branch [
      | then-self w ↦
          (let empty = sym w.is_empty.ensures ∙ sym w.value-is ∙ c.if-is_empty.true in (
            λ t. whole marks other given c.args.self.now i w.if-self.true (nil_from_length _ (eqb-true _ 0 empty)) (c.is_none.ensures.0 t),
            λ l. c.is_none.ensures.1 (nothing-wanted marks other given c.args.self.now i l w.if-self.true),
          ))
      | else-self w ↦ absurd (let e : true ≡ false = sym c.if-is_empty.true ∙ w.value-is ∙ w.if-self.false in cc)
    ]

pub returns-else-is_empty : goal.returns-else-is_empty
returns-else-is_empty c = λ marks other given i. (
  λ t. absurd (let e : true ≡ false = sym t ∙ c.if-is_empty.false in cc),
  λ l. elim c.if-self.branch [
    | then-self w ↦ w.value-is ∙ w.is_empty.ensures ∙ eq-eqb _ 0 (ap length (none-behind marks other given c.args.self.now i l))
    | else-self w ↦ absurd (was-same marks other given c.args.self.now i l w.if-self.false)
  ],
)
