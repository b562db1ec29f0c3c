use Rattle.std.proofs.Common.{◌∙◌}
use Rattle.pv_compare.proofs.Wants.{no-other-at, no-other-at-end, no-other-at-text}
use Rattle.std.proofs.Common.{arith, sym, length, ◌≤◌}
use Rattle.std.proofs.lemmas.Bool.{eqb-false}
use Rattle.pv_compare.proofs.wanted.Wanted.take_other.Goals as goal
use Rattle.pv_compare.proofs.wanted.Wanted.take_other.Goals.{then-not-is_empty-via-then-not-is_empty, then-not-is_empty-via-else-not-is_empty+then-not-is_same}

pub returns-in_default : goal.returns-in_default
returns-in_default c = λ more is. no-other-at-end c.open_text.new.self.text.now c.open_text.new.self.events.now _ more c.requires c.in_default.len_below (c.open_text.ensures.same ∙ is)

pub returns-then-not-is_empty : goal.returns-then-not-is_empty
returns-then-not-is_empty c = elim c.then-not-is_empty.branch [
  | then-not-is_empty-via-then-not-is_empty w ↦ (λ more is.
      let e = sym c.is_empty.ensures ∙ w.if-not-is_empty.true in
      let none = eqb-false (length c.open_text.new.self.text.now) 0 e in
      let some : 1 ≤ length c.open_text.new.self.text.now = omega arith in
      no-other-at-text c.open_text.new.self.text.now c.open_text.new.self.events.now _ more c.requires some (c.open_text.ensures.same ∙ is))
  | then-not-is_empty-via-else-not-is_empty+then-not-is_same w ↦ (λ more is.
      let e = sym c.is_empty.ensures ∙ w.if-not-is_empty.false in
      no-other-at c.open_text.new.self.text.now c.open_text.new.self.events.now _ _ more c.requires e c.in-len1-up.len_at_least
      (c.open_text.ensures.front (Rattle.std.proofs.lemmas.List.nil_from_length _ (Rattle.std.proofs.lemmas.Bool.eqb-true _ 0 e)))
      (λ same. let h = w.is_same.ensures.1 same in let k = w.if-not-is_same.true in cc) (c.open_text.ensures.same ∙ is))
]
