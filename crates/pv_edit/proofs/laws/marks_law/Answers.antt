use Rattle.pv_edit.proofs.RemarkedReasons.{marks-dont-count}
use Rattle.pv_edit.proofs.laws.marks_law.Goals as goal

pub returns : goal.returns
returns g c = marks-dont-count _
