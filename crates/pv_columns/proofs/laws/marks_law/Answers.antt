use Rattle.pv_columns.proofs.ClosedMarks.{closed_marks_are_live}
use Rattle.pv_columns.proofs.laws.marks_law.Goals as goal

pub returns : goal.returns
returns c = closed_marks_are_live
