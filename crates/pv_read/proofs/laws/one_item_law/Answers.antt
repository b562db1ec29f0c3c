use Rattle.pv_read.proofs.OneItem.{one_item}
use Rattle.pv_read.proofs.laws.one_item_law.Goals as goal

pub returns : goal.returns
returns c = one_item
