use Rattle.pv_complete.proofs.CompletedTrees.{leaf_completed}
use Rattle.pv_complete.proofs.laws.leaf_law.Goals as goal

pub returns : goal.returns
returns g c = leaf_completed _
