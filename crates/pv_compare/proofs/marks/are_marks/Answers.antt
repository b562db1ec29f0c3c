use Rattle.std.proofs.Common.{subst, sym}
use Rattle.pv_compare.specs.Kept.{AreFlagged}
use Rattle.pv_compare.proofs.AttributeMarks.{from-marks, to-marks}
use Rattle.pv_compare.proofs.marks.are_marks.Goals as goal

pub returns : goal.returns
returns c = λ body is. (
  λ t. to-marks c.args.marks.now body (subst (AreFlagged c.args.marks.now) is (c.are_flagged.ensures.0 t)),
  λ a. c.are_flagged.ensures.1 (subst (AreFlagged c.args.marks.now) (sym is) (from-marks c.args.marks.now body a)),
)
