use Rattle.pv_tree.proofs.PathOrder.{lists_ascend}
use Rattle.pv_tree.proofs.laws.lists_ascend_law.Goals as goal

pub returns : goal.returns
returns g c = lists_ascend
