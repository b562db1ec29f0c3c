use Rattle.std.proofs.Common.{get_or, length, ℕ, ◌<◌, ◌≡◌}
use Rattle.pv_columns.specs.declared.rules.ColumnRule.{ColumnRule}
use Rattle.pv_reach.proofs.columns.ranges.ends_of.Given as goal

abbrev pub invariant-loop-number : goal.invariant-loop-number
invariant-loop-number l = record {
  long : length l.ends.items ≡ l.width;
  held : (k : ℕ) (d : ColumnRule) → k < l.number → k < get_or l.ends.items (get_or l.rules k d).left 0;
}
