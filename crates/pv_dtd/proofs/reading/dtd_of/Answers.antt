use Rattle.std.proofs.Common.{map, ap, subst, sym, ◌∙◌}
use Rattle.pv_model.specs.PlainForms.{plain_model}
use Rattle.pv_dtd.specs.Plain.{PlainDtd, parts_in_models}
use Rattle.pv_dtd.specs.Items.{mentioned_in, models_in}
use Rattle.pv_dtd.specs.NamedForms.{named_model}
use Rattle.pv_dtd.specs.NameOrder.{with_names, NumbersModels}
use Rattle.pv_dtd.proofs.ReaderAnswers.{numbered_are}
use Rattle.pv_dtd.proofs.NumbersForNames.{parts_numbered}
use Rattle.pv_dtd.proofs.reading.dtd_of.Goals as goal

pub of-requires-clause-items : goal.of-requires-clause-items
of-requires-clause-items c =
    let told = c.in_ok-declared.ensures in
    let names = c.in_ok-models.ensures.names ∙ ap (λ ms. with_names c.declarations.new.names (mentioned_in (map named_model ms))) c.as_slice.ensures.value in
    let placed = subst (λ ms. NumbersModels c.models_of.new.names (map named_model ms) (map plain_model c.in_ok-models.models.items)) c.as_slice.ensures.value c.in_ok-models.ensures.numbers in
    (told.0, told.2.ruled, numbered_are told.0 _ _ _ told.2 _ _ names placed)

pub of-requires-clause-counted : goal.of-requires-clause-counted
unfolding of-requires-clause-items
of-requires-clause-counted c =
    let told = c.in_ok-declared.ensures in
    let is = (of-requires-clause-items c).2 in
    told.2.parts_are ∙ sym (ap (λ (g : PlainDtd). parts_in_models g.models) is ∙ parts_numbered _ (models_in told.0))

pub returns : goal.returns
returns c =
    let told = c.in_ok-declared.ensures in
    let names = c.in_ok-models.ensures.names ∙ ap (λ ms. with_names c.declarations.new.names (mentioned_in (map named_model ms))) c.as_slice.ensures.value in
    let placed = subst (λ ms. NumbersModels c.models_of.new.names (map named_model ms) (map plain_model c.in_ok-models.models.items)) c.as_slice.ensures.value c.in_ok-models.ensures.numbers in
    (told.0, told.1, c.of.ensures ∙ numbered_are told.0 _ _ _ told.2 _ _ names placed)
