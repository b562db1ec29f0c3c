use Rattle.std.proofs.Common.{Contains, length, ℕ, ◌<◌, ◌≤◌, ◌⊎◌}
use Rattle.pv_reach.specs.Cuts.{AreCutRules, HasAllNumbered}
use Rattle.pv_reach.proofs.tables.cut.add_columns.Given as goal

abbrev pub invariant-loop-left : goal.invariant-loop-left
invariant-loop-left l = record {
  cut : AreCutRules l.plan.rules.items l.found.names.items l.fn.few.items → AreCutRules l.plan.rules.items l.found.names.items l.few.items;
  has : (k : ℕ) → l.left ≤ k → k < length l.found.names.items → Contains l.frees.items k ⊎ HasAllNumbered l.plan.rules.items l.found.names.items l.few.items k;
}
