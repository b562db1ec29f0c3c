use Rattle.std.proofs.Common.{◌≡◌, map, take}
use Rattle.pv_standoff.proofs.sorting.with_places.Given as goal

abbrev pub invariant-loop-range : goal.invariant-loop-range
invariant-loop-range l = map (λ p. p.range.now) l.places.items ≡ take l.range-index l.ranges
