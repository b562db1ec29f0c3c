use Rattle.std.proofs.Common.{List, Some, ap, arith, length, slice_get, subst, suc, sym, ℕ, ◌-◌, ◌∙◌, ◌≡◌}
use Rattle.std.proofs.lemmas.Option.{slice_get-get_or}
use Rattle.pv_rules.specs.PlainForms.{plain_site}
use Rattle.pv_denial.specs.Indexes.{IsSlot, slot}
use Rattle.pv_denial.specs.RowForms.{one_past, past_at}
use Rattle.pv_denial.specs.declared.denials.Row.{Row}
use Rattle.pv_denial.proofs.RowIndex.{none_listed, row_listed}
use Rattle.pv_denial.proofs.barrier.Barrier.past_at.Goals as goal

pub returns-then-number-eq0 : goal.returns-then-number-eq0
returns-then-number-eq0 c =
    let rows = c.self.inside.rows.now in let s = plain_site c.args.site in
    let Q : ℕ → Type 0 = λ v. IsSlot rows (length rows) s v in
    let none = subst Q (sym c.get-number.ensures ∙ c.if-number-eq0.true) (c.self.invariant.1 s) in
    let P : List Row → Type 0 = λ v. 0 ≡ past_at v s c.args.place in
    subst P c.self.view_is (sym (ap (λ f. f c.args.place) (none_listed rows s none)))

pub returns : goal.returns
returns c =
    let rows = c.self.inside.rows.now in let s = plain_site c.args.site in let row = c.index-self-number.result in
    let k = c.get-number.result - 1 in
    let number : slot c.self.inside.index s ≡ suc k = (let e = c.get-number.ensures in let n = c.if-number-eq0.false in sym e ∙ omega arith) in
    let Q : ℕ → Type 0 = λ v. IsSlot rows (length rows) s v in
    let listed = subst Q number (c.self.invariant.1 s) in
    let here : slice_get rows k ≡ Some row = slice_get-get_or rows k row listed.1 ∙ ap (λ (r : Row). Some r) (sym c.index-self-number.is) in
    let P : List Row → Type 0 = λ v. c.value_past.result ≡ past_at v s c.args.place in
    subst P c.self.view_is
    (c.value_past.ensures ∙ ap (λ (r : Row). one_past (slice_get r.values c.args.place)) (sym c.index-self-number.is) ∙ sym (row_listed rows s k c.args.place row c.self.invariant.0 listed here))
