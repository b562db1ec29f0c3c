use Rattle.pv_missing.proofs.OneList.{one_list}
use Rattle.pv_missing.proofs.laws.lists.one_list_law.Goals as goal

pub returns : goal.returns
returns c = one_list
