use Rattle.std.proofs.Common.{ℕ, ◌*◌, ◌+◌, ◌<◌, ◌≡◌, ◌≢◌}
use Rattle.pv_productive.specs.Tables.{size_at}
use Rattle.pv_span.specs.Charts.{AreFew}
use Rattle.pv_span.proofs.done.put_values.Given as goal

abbrev pub invariant-loop-column : goal.invariant-loop-column
invariant-loop-column l = record {
  put : (x : ℕ) → x < l.column → size_at l.cells (x * l.spans + l.number) ≡ size_at l.values x;
  kept : (k : ℕ) → ((x : ℕ) → k ≢ x * l.spans + l.number) → size_at l.cells k ≡ size_at l.fn.cells k;
  few : AreFew l.fn.cells → AreFew l.values → AreFew l.cells;
}
