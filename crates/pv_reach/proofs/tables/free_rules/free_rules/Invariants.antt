use Rattle.std.proofs.Common.{Contains, take, ℕ}
use Rattle.pv_reach.specs.Cuts.{AreCutRules, HasCut}
use Rattle.pv_reach.proofs.tables.free_rules.free_rules.Given as goal

abbrev pub invariant-loop-left : goal.invariant-loop-left
invariant-loop-left l = record {
  cut : AreCutRules l.plan.rules.items l.cut.names.items l.few.items;
  has : (k : ℕ) → Contains (take l.left-index l.cut.frees.items) k → HasCut l.plan.rules.items l.cut.names.items l.few.items l.tokens k;
}
