use Rattle.std.proofs.Common.{◌≡◌}
use Rattle.pv_layout.specs.FormForms.{plain_all}
use Rattle.pv_layout.specs.Making.{element_forms}
use Rattle.pv_layout.proofs.layout.all_forms.Given as goal

abbrev pub invariant-loop-name : goal.invariant-loop-name
invariant-loop-name l = plain_all l.forms.items ≡ element_forms l.contents l.name
