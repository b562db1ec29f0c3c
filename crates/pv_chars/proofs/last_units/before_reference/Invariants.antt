use Rattle.std.proofs.Common.{length}
use Rattle.pv_chars.proofs.LastUnits.{Passed, is_other}
use Rattle.pv_chars.proofs.last_units.before_reference.Given as goal

abbrev pub invariant-bytes : goal.invariant-bytes
invariant-bytes l = Passed is_other l.bytes l.rest

abbrev pub decreases-bytes : goal.decreases-bytes
decreases-bytes l = length l.rest
