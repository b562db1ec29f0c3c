use Rattle.std.proofs.Common.{ℕ, ◌*◌, ◌+◌, ◌<◌, ◌≡◌}
use Rattle.pv_productive.specs.Tables.{size_at}
use Rattle.pv_span.proofs.done.take_values.Given as goal

abbrev pub invariant-loop-column : goal.invariant-loop-column
invariant-loop-column l = (x : ℕ) → x < l.column →
    size_at l.values x ≡ size_at l.cells (x * l.spans + l.number)
