use Rattle.std.proofs.Common.{◌≡◌, take}
use Rattle.pv_model.specs.PlainForms.{plain_parts}
use Rattle.pv_dtd.specs.Items.{spelled_in_all}
use Rattle.pv_dtd.specs.NamedForms.{named_parts}
use Rattle.pv_dtd.specs.NameOrder.{with_names, NumbersParts}
use Rattle.pv_dtd.proofs.numbering.+numbering.Given as goal

abbrev pub invariant-parts_of-loop-member : goal.invariant-parts_of-loop-member
invariant-parts_of-loop-member l = record {
  names : l.names ≡ with_names l.initial.names (spelled_in_all (named_parts (take l.member-index l.members)));
  numbers : NumbersParts l.names (named_parts (take l.member-index l.members)) (plain_parts l.parts.items);
}
