use Rattle.std.proofs.Common.{◌≡◌, ◌≤◌, length, drop}
use Rattle.pv_reach.specs.Tables.{past}
use Rattle.pv_reach.proofs.tables.table.past_columns.Given as goal

abbrev pub invariant-loop-column : goal.invariant-loop-column
invariant-loop-column l = record {
  within : l.place ≤ length l.word;
  rest : past l.width l.table l.columns l.start ≡ past l.width l.table (drop l.column-index l.columns) l.place;
}
