use Rattle.std.proofs.Common.{IsTrue, List, None, Some, ap, get_or, length, subst, sym, ℕ, ◌∙◌, ◌↔◌, ◌≡◌}
use Rattle.pv_columns.specs.FreeSets.{AreInRow}
use Rattle.pv_columns.proofs.SetsTaken.{covers_all}
use Rattle.pv_columns.proofs.free_sets.FreeSets.covers.Goals as goal

pub returns : goal.returns
returns c = λ rules columns are missing.
    let free = c.args.self.now in let place = c.args.place in let n = c.in_ok-number.number in let word = c.args.word.now in
    let e : get_or free.numbers.items place None ≡ Some n = ap (λ v. get_or v place None) (sym c.deref.ensures.value) ∙ sym c.number_at.ensures ∙ c.in_ok-number.was in
    let row : c.deref-2.result.now ≡ (get_or free.sets.items n c.index.result.now).words.items = c.deref-2.ensures.value ∙ ap (λ v. v.words.items) c.index.ensures in
    let P : List ℕ → Type 0 = λ v. IsTrue c.are_in_row.result ↔ AreInRow v word 0 (length word) in
    covers_all rules columns free place n c.index.result.now word c.are_in_row.result are missing e (subst P row c.are_in_row.ensures)
