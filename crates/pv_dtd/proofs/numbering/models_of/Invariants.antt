use Rattle.std.proofs.Common.{◌≡◌, map, take}
use Rattle.pv_model.specs.PlainForms.{plain_model}
use Rattle.pv_dtd.specs.Items.{mentioned_in}
use Rattle.pv_dtd.specs.NamedForms.{named_model}
use Rattle.pv_dtd.specs.NameOrder.{with_names, NumbersModels}
use Rattle.pv_dtd.proofs.numbering.models_of.Given as goal

abbrev pub invariant-loop-model : goal.invariant-loop-model
invariant-loop-model l = record {
  names : l.names ≡ with_names l.initial.names (mentioned_in (map named_model (take l.model-index l.spelled)));
  numbers : NumbersModels l.names (map named_model (take l.model-index l.spelled)) (map plain_model l.models.items);
}
