use Rattle.std.proofs.Common.{◌∙◌, ◌≡◌, [], length, ap, sym}
use Rattle.std.proofs.lemmas.Bool.{eqb-true, eq-eqb}
use Rattle.std.proofs.lemmas.List.{nil_from_length}
use Rattle.pv_compare.proofs.Wants.{no-text-where-none, none-at, stands}
use Rattle.pv_compare.proofs.wanted.Wanted.is_none.Goals as goal

pub returns-then-is_empty : goal.returns-then-is_empty
returns-then-is_empty c =
    let t = c.open_text.new.self.text.now in
    let es = c.open_text.new.self.events.now in
    let none : t ≡ [] = nil_from_length t (eqb-true (length t) 0 (sym c.is_empty.ensures ∙ c.if-is_empty.true)) in
    let ends = c.is_empty-then-is_empty.ensures in (
      λ is. sym c.open_text.ensures.same ∙ ap (λ l. stands l es) none ∙ ap (λ l. stands [] l) (nil_from_length es (eqb-true (length es) 0 (sym ends ∙ is))),
      λ is. ends ∙ eq-eqb (length es) 0 (none-at es (c.open_text.ensures.front none) (ap (λ l. stands l es) (sym none) ∙ c.open_text.ensures.same ∙ is)),
    )

pub returns-else-is_empty : goal.returns-else-is_empty
returns-else-is_empty c =
    let t = c.open_text.new.self.text.now in
    let es = c.open_text.new.self.events.now in (
      λ is. let no = c.if-is_empty.false in absurd (cc),
      λ is. c.is_empty.ensures ∙ eq-eqb (length t) 0 (ap length (no-text-where-none t es (c.open_text.ensures.same ∙ is))),
    )
