use Rattle.std.proofs.Common.{◌≡◌, ◌≤◌, ◌+◌, drop}
use Rattle.pv_chars.specs.UnitPlaces.{openings}
use Rattle.pv_chars.proofs.unit_places.openings.Given as goal

abbrev pub invariant-loop-b : goal.invariant-loop-b
invariant-loop-b l = record {
  within : l.count ≤ l.b-index;
  left : l.count + openings (drop l.b-index l.bytes) ≡ openings l.bytes;
}
