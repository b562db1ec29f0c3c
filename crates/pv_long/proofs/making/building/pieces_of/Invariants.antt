use Rattle.pv_long.specs.Goals.{work_in}
use Rattle.pv_long.proofs.making.building.pieces_of.Given as goal

abbrev pub decreases-loop-goal : goal.decreases-loop-goal
decreases-loop-goal l = work_in l.built.goals.items
