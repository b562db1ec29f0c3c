use Rattle.std.proofs.Common.{None, Some, get_or, length, ℕ, ◌<◌, ◌≡◌}
use Rattle.pv_columns.specs.FreeSets.{IsFreeOver}
use Rattle.pv_columns.specs.declared.free_sets.TokenSet.{TokenSet}
use Rattle.pv_columns.proofs.free_sets.sets_of.Given as goal

abbrev pub invariant-loop-column : goal.invariant-loop-column
invariant-loop-column l = record {
  long : length l.numbers.items ≡ l.column-index;
  free : (x k : ℕ) (d : TokenSet) → get_or l.numbers.items x None ≡ Some k → (k < length l.sets.items) × IsFreeOver l.rules (get_or l.sets.items k d).words.items (get_or l.columns x 0);
}
