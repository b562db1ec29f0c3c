use Rattle.std.proofs.Common.{◌≡◌, drop, length}
use Rattle.pv_chars.specs.Units.{units_in}
use Rattle.pv_chars.proofs.unit_places.walk.Given as goal

abbrev pub invariant-runs : goal.invariant-runs
invariant-runs l = drop l.left (units_in l.rest) ≡ drop l.count (units_in l.bytes)

abbrev pub decreases-runs : goal.decreases-runs
decreases-runs l = length l.rest
