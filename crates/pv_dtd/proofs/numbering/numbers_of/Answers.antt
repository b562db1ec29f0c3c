use Rattle.std.proofs.Common.{arith}
use Rattle.std.proofs.lemmas.List.{take_more, map-append}
use Rattle.std.proofs.Common.{[], ◌∷◌, ap, ◌∙◌}
use Rattle.pv_model.specs.PlainForms.{numbers_of}
use Rattle.pv_model.specs.declared.models.NameId.{NameId}
use Rattle.pv_dtd.proofs.GrowingNames.{numbers_step}
use Rattle.pv_dtd.proofs.numbering.numbers_of.Goals as goal

pub loop-name-preserved : goal.loop-name-preserved
loop-name-preserved c =
    let pushed = ap numbers_of c.in_ok-push.ensures.items ∙ map-append (λ (id : NameId). id.0) c.loop-name.numbers.items (c.in_ok-number.field-0 ∷ []) in
    let step = numbers_step (λ n. n.now) _ _ _ _ _ _ _ _ _ (take_more c.args.listed.now
    c.loop-name.name-index _ (omega arith)) c.in_ok-number.ensures.names
    c.in_ok-number.ensures.number pushed c.loop-name.invariant.names c.loop-name.invariant.numbers in
    record { names = step.0; numbers = step.1 }
