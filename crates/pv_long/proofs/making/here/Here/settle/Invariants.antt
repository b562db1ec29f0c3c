use Rattle.std.proofs.Common.{length, ◌≤◌}
use Rattle.pv_long.specs.Ends.{room_left}
use Rattle.pv_long.proofs.making.here.Here.settle.Given as goal

abbrev pub invariant-loop-column : goal.invariant-loop-column
invariant-loop-column l = room_left l.ends ≤ room_left l.fn.ends

abbrev pub decreases-loop-column : goal.decreases-loop-column
decreases-loop-column l = length l.waiting.items
