use Rattle.std.proofs.Common.{ap, arith, map, refl, sym, true≢false, ◌+◌, ◌∙◌}
use Rattle.pv_dtd.specs.Plain.{PlainDtd, parts_in_models}
use Rattle.pv_model.specs.PlainForms.{plain_token}
use Rattle.pv_rules.specs.Sites.{part_site, rest_site}
use Rattle.pv_productive.specs.PlainForms.{dtd_of}
use Rattle.pv_denial.specs.RowForms.{HoldsAt}
use Rattle.pv_denial.proofs.Contents.{upto_more}
use Rattle.pv_denial.proofs.rules.all_parts_hold.Goals as goal

pub loop-number-preserved : goal.loop-number-preserved
loop-number-preserved c =
    let g = dtd_of c.args.grammar.now in let w = map plain_token c.args.word.now in let rows = c.args.barrier.now in let l = c.loop-number in
    upto_more (λ v. HoldsAt g w rows (part_site v) × HoldsAt g w rows (rest_site v)) l.number (l.number + 1) (omega arith) l.invariant (c.number_holds.ensures.0 c.if-not-number_holds.false)

pub returns-then-not-number_holds : goal.returns-then-not-number_holds
returns-then-not-number_holds c =
    let e = c.parts-number-end.ensures ∙ ap (λ (d : PlainDtd). parts_in_models d.models) c.dtd.ensures in
    ((λ t. absurd (true≢false (sym t))), (λ all. sym c.if-not-number_holds.true ∙ c.number_holds.ensures.1 (all c.loop-number.number (let a = c.loop-number-test.true in omega arith))))

pub returns : goal.returns
returns c =
    let e = c.parts-number-end.ensures ∙ ap (λ (d : PlainDtd). parts_in_models d.models) c.dtd.ensures in
    ((λ t x lt. c.loop-number.invariant x (let a = c.loop-number-test.false in omega arith)), (λ h. refl))
