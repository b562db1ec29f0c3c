use Rattle.std.proofs.Common.{◌+◌, ◌*◌}
use Rattle.pv_model.specs.PlainForms.{plain_part, plain_parts}
use Rattle.pv_model.proofs.LayingOut.{weight, weights}
use Rattle.pv_model.proofs.layout.+lay_out.Given as goal

abbrev pub decreases-lay_out : goal.decreases-lay_out
decreases-lay_out l = 2 * weight (plain_part l.part.now)

abbrev pub decreases-lay_out_rounds : goal.decreases-lay_out_rounds
decreases-lay_out_rounds l = 2 * weight (plain_part l.inner.now) + 1

abbrev pub decreases-lay_out_in_order : goal.decreases-lay_out_in_order
decreases-lay_out_in_order l = 2 * weights (plain_parts l.parts.now) + 1

abbrev pub decreases-box_in_order : goal.decreases-box_in_order
decreases-box_in_order l = 2 * weights (plain_parts l.parts.now) + 2

abbrev pub decreases-box_choice : goal.decreases-box_choice
decreases-box_choice l = 2 * weights (plain_parts l.parts.now) + 2

abbrev pub decreases-lay_out_choice : goal.decreases-lay_out_choice
decreases-lay_out_choice l = 2 * weights (plain_parts l.parts.now) + 1
