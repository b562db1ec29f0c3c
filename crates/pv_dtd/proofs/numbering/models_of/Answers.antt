use Rattle.std.proofs.Common.{◌++◌, ◌∷◌, [], take, map, sym, ap, ◌∙◌, subst, arith}
use Rattle.std.proofs.lemmas.List.{take_more, take_all}
use Rattle.pv_model.specs.PlainForms.{plain_model}
use Rattle.pv_dtd.specs.NamedForms.{named_model}
use Rattle.pv_dtd.specs.NameOrder.{NumbersModels}
use Rattle.pv_dtd.proofs.GrowingNames.{models_step}
use Rattle.pv_dtd.proofs.numbering.models_of.Goals as goal

pub loop-model-preserved : goal.loop-model-preserved
loop-model-preserved c =
    let more = take_more c.args.spelled.now c.loop-model.model-index c.model-item.result (omega arith) ∙ ap (λ m. take c.loop-model.model-index c.args.spelled.now ++ m ∷ []) (sym c.model-item.is) in
    let pushed = c.in_ok-push.ensures.items ∙ ap (λ m. c.loop-model.models.items ++ m ∷ []) c.in_ok-laid_out.ensures in
    let step = models_step named_model plain_model _ _ _ _ _ _ _ _ _ more
    c.in_ok-model.ensures.names c.in_ok-model.ensures.numbers pushed
    c.loop-model.invariant.names c.loop-model.invariant.numbers in
    record { names = step.0; numbers = step.1 }

pub returns-clause-numbers : goal.returns-clause-numbers
returns-clause-numbers c =
    let all = take_all c.loop-model.model-index c.args.spelled.now (omega arith) in
    subst (λ ms. NumbersModels c.loop-model.names (map named_model ms) (map plain_model c.loop-model.models.items)) all c.loop-model.invariant.numbers
