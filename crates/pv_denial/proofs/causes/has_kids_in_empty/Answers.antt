use Rattle.std.proofs.Common.{ap, length, sym, ◌∙◌}
use Rattle.std.proofs.lemmas.Bool.{eq-eqb}
use Rattle.pv_productive.specs.PlainForms.{dtd_of}
use Rattle.pv_denial.specs.Places.{owner_by}
use Rattle.pv_denial.proofs.ListJudgements.{empty_iff, no_forest}
use Rattle.pv_denial.proofs.causes.has_kids_in_empty.Goals as goal

pub returns-in-Some : goal.returns-in-Some
returns-in-Some c = λ root list is.
    let p = c.args.place.now in
    empty_iff (dtd_of c.args.grammar.now) list.owner list.kids p.name.now c.in-Some.id.0
    c.is_empty-in-Some.result (is.owner ∙ ap (λ b. owner_by b p.name.now) c.if-place.false)
    (sym c.in-Some.ensures.named)
    (λ z. let l = eq-eqb (length p.kids.now) 0 (no_forest p.kids.now (sym is.kids ∙ z)) in let f = c.is_empty.ensures in let h = c.if-is_empty.false in cc) c.is_empty-in-Some.ensures
