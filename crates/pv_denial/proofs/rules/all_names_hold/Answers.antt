use Rattle.std.proofs.Common.{ap, arith, length, map, refl, sym, true≢false, ◌+◌, ◌∙◌}
use Rattle.pv_dtd.specs.Plain.{PlainDtd}
use Rattle.pv_model.specs.PlainForms.{plain_token}
use Rattle.pv_rules.specs.Sites.{name_site, content_site}
use Rattle.pv_productive.specs.PlainForms.{dtd_of}
use Rattle.pv_denial.specs.RowForms.{HoldsAt}
use Rattle.pv_denial.proofs.Contents.{upto_more}
use Rattle.pv_denial.proofs.rules.all_names_hold.Goals as goal

pub loop-name-preserved : goal.loop-name-preserved
loop-name-preserved c =
    let g = dtd_of c.args.grammar.now in let w = map plain_token c.args.word.now in let rows = c.args.barrier.now in let l = c.loop-name in
    upto_more (λ v. HoldsAt g w rows (name_site v) × HoldsAt g w rows (content_site v)) l.name (l.name + 1) (omega arith) l.invariant (c.both_hold.ensures.0 c.if-not-both_hold.false)

pub returns-then-not-both_hold : goal.returns-then-not-both_hold
returns-then-not-both_hold c =
    let e = c.names-name-end.ensures ∙ ap (λ (d : PlainDtd). length d.names) c.dtd.ensures in
    ((λ t. absurd (true≢false (sym t))), (λ all. sym c.if-not-both_hold.true ∙ c.both_hold.ensures.1 (all c.loop-name.name (let a = c.loop-name-test.true in omega arith))))

pub returns : goal.returns
returns c =
    let e = c.names-name-end.ensures ∙ ap (λ (d : PlainDtd). length d.names) c.dtd.ensures in
    ((λ t x lt. c.loop-name.invariant x (let a = c.loop-name-test.false in omega arith)), (λ h. refl))
