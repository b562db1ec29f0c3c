use Rattle.std.proofs.Common.{List, None, Some, ap, get_or, subst, sym, ℕ, ◌∙◌, ◌≡◌}
use Rattle.pv_columns.specs.FreeSets.{IsFreeOver}
use Rattle.pv_columns.proofs.free_sets.FreeSets.set_at.Goals as goal

pub returns : goal.returns
returns c = λ rules columns are.
    let free = c.args.self.now in let place = c.args.place in let n = c.in_ok-number.number in
    let e : get_or free.numbers.items place None ≡ Some n = ap (λ v. get_or v place None) (sym c.deref.ensures.value) ∙ sym c.number_at.ensures ∙ c.in_ok-number.was in
    let row : c.deref-2.result.now ≡ (get_or free.sets.items n c.index.result.now).words.items = c.deref-2.ensures.value ∙ ap (λ v. v.words.items) c.index.ensures in
    let P : List ℕ → Type 0 = λ v. IsFreeOver rules v (get_or columns place 0) in
    subst P (sym row) (are place n c.index.result.now e).1
