use Rattle.std.proofs.Common.{length}
use Rattle.pv_chars.specs.Utf8.{continues}
use Rattle.pv_chars.proofs.LastUnits.{Passed}
use Rattle.pv_chars.proofs.last_units.last_opening.Given as goal

abbrev pub invariant-bytes : goal.invariant-bytes
invariant-bytes l = Passed continues l.bytes l.rest

abbrev pub decreases-bytes : goal.decreases-bytes
decreases-bytes l = length l.rest
