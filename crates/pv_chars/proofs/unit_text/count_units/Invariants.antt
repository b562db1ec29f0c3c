use Rattle.std.proofs.Common.{length}
use Rattle.pv_chars.proofs.MeansLemmas.{HasUnits}
use Rattle.pv_chars.proofs.unit_text.count_units.Given as goal

abbrev pub invariant-units : goal.invariant-units
invariant-units l = HasUnits l.bytes l.rest l.count

abbrev pub decreases-units : goal.decreases-units
decreases-units l = length l.rest
