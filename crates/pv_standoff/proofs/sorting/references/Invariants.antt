use Rattle.std.proofs.Common.{◌≡◌, map, take}
use Rattle.pv_standoff.specs.PlainForms.{seen}
use Rattle.pv_standoff.proofs.sorting.references.Given as goal

abbrev pub invariant-loop-place : goal.invariant-loop-place
invariant-loop-place l = seen l.ranges.items ≡ map (λ p. p.range.now) (take l.place-index l.places)
