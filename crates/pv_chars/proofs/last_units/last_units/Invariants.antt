use Rattle.pv_chars.proofs.LastUnits.{Reached}
use Rattle.pv_chars.proofs.last_units.last_units.Given as goal

abbrev pub invariant-units : goal.invariant-units
invariant-units l = Reached l.bytes l.front l.left l.count

abbrev pub decreases-units : goal.decreases-units
decreases-units l = l.left
