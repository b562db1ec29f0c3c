use Rattle.pv_tree.proofs.ValidLists.{valid_lists}
use Rattle.pv_tree.proofs.laws.valid_lists_law.Goals as goal

pub returns : goal.returns
returns c = valid_lists
