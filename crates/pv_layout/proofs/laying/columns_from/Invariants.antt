use Rattle.std.proofs.Common.{◌+◌, ◌<◌}
use Rattle.pv_layout.specs.Columns.{AreColumns, column_at}
use Rattle.pv_layout.proofs.laying.columns_from.Given as goal

abbrev pub invariant-loop-number : goal.invariant-loop-number
invariant-loop-number l = AreColumns (λ e. l.first + e < l.number) (λ e. column_at l.columns (l.first + e)) l.found.items
