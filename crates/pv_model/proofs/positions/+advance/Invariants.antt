use Rattle.std.proofs.Common.{drop}
use Rattle.pv_model.specs.PlainForms.{plain_parts}
use Rattle.pv_model.proofs.Progress.{InOrder, InEach}
use Rattle.pv_model.proofs.positions.+advance.Given as goal

abbrev pub invariant-advance_in_order-loop-part : goal.invariant-advance_in_order-loop-part
invariant-advance_in_order-loop-part l =
    InOrder (plain_parts l.parts) l.entered l.name.0 l.at l.fn.positions (plain_parts (drop l.part-index l.parts)) l.entering l.all l.positions

abbrev pub invariant-advance_each-loop-part : goal.invariant-advance_each-loop-part
invariant-advance_each-loop-part l =
    InEach (plain_parts l.parts) l.entered l.name.0 l.at l.fn.positions (plain_parts (drop l.part-index l.parts)) l.some l.positions
