use Rattle.std.proofs.Common.{arith, refl, suc, ◌+◌, ◌≤◌}
use Rattle.std.proofs.lemmas.Option.{slice_get-get_or}
use Rattle.pv_model.specs.Plain.{text}
use Rattle.pv_rules.specs.PlainForms.{plain_site}
use Rattle.pv_denial.specs.RowForms.{past_at}
use Rattle.pv_denial.proofs.Tokens.{before_all, before_more}
use Rattle.pv_denial.proofs.forms.text_holds.Goals as goal

pub loop-place-preserved : goal.loop-place-preserved
loop-place-preserved c =
    let rows = c.args.barrier.now in let s = plain_site c.args.left in let word = c.args.word.now in let l = c.loop-place in
    before_more text (λ i. past_at rows s (suc i) ≤ past_at rows s i) word l.place _ (slice_get-get_or word l.place _ c.loop-place-test.true) l.invariant
    (c.text_here_holds.ensures.0 c.if-not-text_here_holds.false) (l.place + 1) (omega arith)

pub returns : goal.returns
returns c =
    let rows = c.args.barrier.now in let s = plain_site c.args.left in
    ((λ t. before_all text (λ i. past_at rows s (suc i) ≤ past_at rows s i) c.args.word.now c.loop-place.place c.loop-place-test.false c.loop-place.invariant), (λ h. refl))
