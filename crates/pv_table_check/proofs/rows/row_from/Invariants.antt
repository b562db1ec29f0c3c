use Rattle.std.proofs.Common.{length, ◌+◌, ◌≡◌}
use Rattle.pv_rules.specs.PlainForms.{plain_site}
use Rattle.pv_table_check.proofs.RowValues.{AreSoFar}
use Rattle.pv_table_check.proofs.rows.row_from.Given as goal

abbrev pub invariant-loop-to : goal.invariant-loop-to
invariant-loop-to l = record {
  long : l.from + length l.values.items ≡ l.to;
  each : AreSoFar l.entries (plain_site l.site) l.from l.values.items;
}
