use Rattle.pv_tree.proofs.ListsAtPaths.{lists_stand}
use Rattle.pv_tree.proofs.laws.list_at_law.Goals as goal

pub returns : goal.returns
returns g c = lists_stand
