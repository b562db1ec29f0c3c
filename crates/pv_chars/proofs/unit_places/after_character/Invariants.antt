use Rattle.std.proofs.Common.{◌≡◌, length}
use Rattle.pv_chars.specs.Units.{units_in}
use Rattle.pv_chars.proofs.unit_places.after_character.Given as goal

abbrev pub invariant-bytes : goal.invariant-bytes
invariant-bytes l = units_in l.rest ≡ units_in l.bytes

abbrev pub decreases-bytes : goal.decreases-bytes
decreases-bytes l = length l.rest
