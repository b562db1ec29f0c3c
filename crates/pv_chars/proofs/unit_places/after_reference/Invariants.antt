use Rattle.std.proofs.Common.{◌≡◌, ◌≤◌, length}
use Rattle.pv_chars.proofs.UnitPlaceLemmas.{behind_open}
use Rattle.pv_chars.proofs.unit_places.after_reference.Given as goal

abbrev pub invariant-bytes : goal.invariant-bytes
invariant-bytes l = record {
  within : length l.rest ≤ length l.bytes;
  left : behind_open l.rest ≡ behind_open l.bytes;
}

abbrev pub decreases-bytes : goal.decreases-bytes
decreases-bytes l = length l.rest
