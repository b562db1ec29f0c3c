use Rattle.pv_long.specs.Ends.{room_left}
use Rattle.pv_long.proofs.making.spreading.settle_cost.Given as goal

abbrev pub decreases-steps : goal.decreases-steps
decreases-steps l = room_left l.ends
