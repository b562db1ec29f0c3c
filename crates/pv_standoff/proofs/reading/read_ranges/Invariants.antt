use Rattle.std.proofs.Common.{length}
use Rattle.pv_standoff.proofs.ReadingLemmas.{HasRead}
use Rattle.pv_standoff.proofs.reading.read_ranges.Given as goal

abbrev pub invariant-lines : goal.invariant-lines
invariant-lines l = HasRead l.bytes l.ranges.items l.rest

abbrev pub decreases-lines : goal.decreases-lines
decreases-lines l = length l.rest
