use Rattle.std.proofs.Common.{length}
use Rattle.pv_read.specs.Epilogs.{ReadsEpilog}
use Rattle.pv_read.proofs.epilog.read_epilog.Given as goal

abbrev pub invariant-items : goal.invariant-items
invariant-items l = ReadsEpilog l.most_depth l.root l.end l.first l.rest l.count

abbrev pub decreases-items : goal.decreases-items
decreases-items l = length l.rest
