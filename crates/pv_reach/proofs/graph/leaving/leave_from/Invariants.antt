use Rattle.pv_reach.specs.Searches.{steps_left}
use Rattle.pv_reach.proofs.graph.leaving.leave_from.Given as goal

abbrev pub decreases-loop-visit : goal.decreases-loop-visit
decreases-loop-visit l = steps_left l.chains l.visits
