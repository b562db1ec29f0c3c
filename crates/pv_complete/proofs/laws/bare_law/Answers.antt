use Rattle.pv_complete.proofs.CompletedTrees.{bare_completed}
use Rattle.pv_complete.proofs.laws.bare_law.Goals as goal

pub returns : goal.returns
returns g c = bare_completed _
