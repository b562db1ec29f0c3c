use Rattle.pv_complete.proofs.CompletedTrees.{element_completed}
use Rattle.pv_complete.proofs.laws.element_law.Goals as goal

pub returns : goal.returns
returns g c = element_completed _
