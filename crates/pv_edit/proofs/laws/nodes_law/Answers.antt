use Rattle.pv_edit.proofs.NodeCounts.{counted}
use Rattle.pv_edit.proofs.laws.nodes_law.Goals as goal

pub returns : goal.returns
returns g c = counted
