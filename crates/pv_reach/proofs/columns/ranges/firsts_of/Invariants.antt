use Rattle.std.proofs.Common.{get_or, length, ℕ, ◌<◌, ◌≡◌, ◌≤◌}
use Rattle.pv_columns.specs.declared.rules.ColumnRule.{ColumnRule}
use Rattle.pv_reach.proofs.columns.ranges.firsts_of.Given as goal

abbrev pub invariant-loop-number : goal.invariant-loop-number
invariant-loop-number l = record {
  long : length l.firsts.items ≡ l.width;
  held : (k : ℕ) (d : ColumnRule) → l.number ≤ k → k < length l.rules → get_or l.firsts.items (get_or l.rules k d).left 0 ≤ k;
}
