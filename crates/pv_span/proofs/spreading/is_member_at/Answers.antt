use Rattle.std.proofs.Common.{Some, ap, slice_get, sym, ◌∙◌, ◌≡◌}
use Rattle.std.proofs.lemmas.Bool.{eqb-true}
use Rattle.pv_layout.specs.FormForms.{plain_form}
use Rattle.pv_layout.specs.Mentions.{columns_mentioned}
use Rattle.pv_span.proofs.spreading.is_member_at.Goals as goal

pub returns-in-Some : goal.returns-in-Some
returns-in-Some c = λ t.
    let h = c.is_one_of.ensures c.if-not-is_one_of.false in
    let e : columns_mentioned (plain_form c.args.form.now) ≡ h.0 = ap columns_mentioned h.1 in
    let m = eqb-true c.in-Some.member c.args.column t in
    let r : slice_get h.0 c.args.place ≡ Some c.args.column =
    ap (λ xs. slice_get xs c.args.place) (sym e) ∙ sym c.mentioned.ensures ∙ c.in-Some.is ∙
    ap Some m in
    (h.0, h.1, (c.args.place, r))
