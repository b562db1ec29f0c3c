use Rattle.pv_edit.proofs.KeptLists.{keeps-lists}
use Rattle.pv_edit.proofs.laws.other_lists_law.Goals as goal

pub returns : goal.returns
returns g c = keeps-lists
