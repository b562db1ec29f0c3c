use Rattle.std.proofs.Common.{get_or, length, ℕ, ◌<◌, ◌≡◌}
use Rattle.pv_reach.specs.LeadingColumns.{IsHead}
use Rattle.pv_reach.proofs.graph.components.common_ends.Given as goal

abbrev pub invariant-loop-column : goal.invariant-loop-column
invariant-loop-column l = record {
  long : length l.heads.items ≡ l.column;
  are : (c : ℕ) → c < l.column → IsHead l.above l.below c (get_or l.heads.items c 0);
}
