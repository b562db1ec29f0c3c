use Rattle.std.proofs.Common.{length, ℕ, ◌<◌, ◌≡◌}
use Rattle.pv_layout.specs.Columns.{column_at}
use Rattle.pv_layout.proofs.laying.numbers.Given as goal

abbrev pub invariant-loop-number : goal.invariant-loop-number
invariant-loop-number l = record {
  count : length l.numbers.items ≡ l.number;
  each : (x : ℕ) → x < l.number → column_at l.numbers.items x ≡ x;
}
