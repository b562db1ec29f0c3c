use Rattle.pv_complete.proofs.CompletedTrees.{merged_completed}
use Rattle.pv_complete.proofs.laws.merged_law.Goals as goal

pub returns : goal.returns
returns g c = merged_completed _
