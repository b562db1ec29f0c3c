use Rattle.std.proofs.Common.{◌≡◌, ◌≤◌, length, None}
use Rattle.pv_chars.specs.Declarations.{is_one_of}
use Rattle.pv_dtd.specs.ItemReading.{stop_at}
use Rattle.pv_dtd.proofs.fronts.stop_at.Given as goal

abbrev pub invariant-loop-rest : goal.invariant-loop-rest
invariant-loop-rest l = (stop_at (is_one_of l.stops) l.quote l.rest ≡ stop_at (is_one_of l.stops) None l.bytes) × (length l.rest ≤ length l.bytes)

abbrev pub decreases-loop-rest : goal.decreases-loop-rest
decreases-loop-rest l = length l.rest
