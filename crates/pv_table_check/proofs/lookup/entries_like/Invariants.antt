use Rattle.std.proofs.Common.{◌-◌}
use Rattle.pv_table_check.proofs.LikeEntries.{IsRunWithin}
use Rattle.pv_table_check.proofs.lookup.entries_like.Given as goal

abbrev pub invariant-halves : goal.invariant-halves
invariant-halves l = IsRunWithin l.entries l.anywhere l.probe l.start l.end l.high

abbrev pub decreases-halves : goal.decreases-halves
decreases-halves l = l.high - l.end
