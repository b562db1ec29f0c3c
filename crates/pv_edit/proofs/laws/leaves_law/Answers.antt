use Rattle.pv_edit.proofs.LeavesAfterTags.{keeps-leaves}
use Rattle.pv_edit.proofs.laws.leaves_law.Goals as goal

pub returns : goal.returns
returns g c = keeps-leaves
