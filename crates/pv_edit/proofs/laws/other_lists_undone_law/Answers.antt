use Rattle.pv_edit.proofs.ListsKeptByUndo.{undone-lists}
use Rattle.pv_edit.proofs.laws.other_lists_undone_law.Goals as goal

pub returns : goal.returns
returns g c = undone-lists
