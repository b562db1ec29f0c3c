use Rattle.std.proofs.Common.{◌≡◌, ◌≤◌, ◌+◌, length}
use Rattle.pv_denial.specs.Rows.{most_values, values_in}
use Rattle.pv_denial_text.proofs.RowLines.{RowsRead}
use Rattle.pv_denial_text.proofs.rows.read_rows.Given as goal

abbrev pub invariant-rows : goal.invariant-rows
invariant-rows l = record {
  read : RowsRead l.initial.rest l.rows.items l.last l.rest;
  room : l.room + values_in l.rows.items ≡ most_values;
  within : length l.rest + length l.rows.items ≤ length l.initial.rest;
}

abbrev pub decreases-rows : goal.decreases-rows
decreases-rows l = length l.rest
