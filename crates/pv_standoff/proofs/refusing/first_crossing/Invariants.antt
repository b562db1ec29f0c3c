use Rattle.std.proofs.Common.{◌≤◌, ℕ, take, drop}
use Rattle.std.specs.List.{AllByRecursion}
use Rattle.pv_standoff.specs.Ranges.{NoneCrossLater}
use Rattle.pv_standoff.specs.PlainForms.{seen}
use Rattle.pv_standoff.specs.Stacks.{AreStillOpen}
use Rattle.pv_standoff.specs.PlainForms.{innermost_first}
use Rattle.pv_standoff.proofs.refusing.first_crossing.Given as goal

abbrev pub invariant-each : goal.invariant-each
invariant-each l = (b : ℕ) × NoneCrossLater (take l.range-index (seen l.sorted)) × AreStillOpen b (take l.range-index (seen l.sorted)) (innermost_first l.stack.items) ×
    AllByRecursion (λ x. b ≤ x.from) (drop l.range-index (seen l.sorted))
