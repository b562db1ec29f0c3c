use Rattle.std.proofs.Common.{false, get_or, true, ℕ, ◌<◌, ◌≡◌}
use Rattle.pv_columns.proofs.marks.are_marked.Given as goal

abbrev pub invariant-loop-column : goal.invariant-loop-column
invariant-loop-column l = (k : ℕ) → k < l.column-index → get_or l.marks (get_or l.columns k 0) false ≡ true
