use Rattle.std.proofs.Common.{length}
use Rattle.pv_edit.proofs.descent.+change_below.Given as goal

abbrev pub decreases-change_below : goal.decreases-change_below
decreases-change_below l = length l.path.now
