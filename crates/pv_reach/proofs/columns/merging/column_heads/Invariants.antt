use Rattle.std.proofs.Common.{take, ◌≡◌}
use Rattle.pv_reach.specs.Merging.{column_heads}
use Rattle.pv_reach.proofs.columns.merging.column_heads.Given as goal

abbrev pub invariant-loop-column : goal.invariant-loop-column
invariant-loop-column l = l.found.items ≡ column_heads l.heads (take l.column-index l.columns)
