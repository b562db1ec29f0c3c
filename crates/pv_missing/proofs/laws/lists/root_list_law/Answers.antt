use Rattle.pv_missing.proofs.OneList.{root_list}
use Rattle.pv_missing.proofs.laws.lists.root_list_law.Goals as goal

pub returns : goal.returns
returns c = root_list
