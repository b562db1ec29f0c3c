use Rattle.std.proofs.Common.{ℕ, Some, length, slice_get, ◌≡◌}
use Rattle.pv_rules.specs.PlainForms.{plain_site}
use Rattle.pv_table_check.specs.Rows.{AreValuesFrom}
use Rattle.pv_table_check.specs.declared.rows.Row.{Row}
use Rattle.pv_table_check.proofs.rows.rows_of.Given as goal

abbrev pub invariant-loop-from : goal.invariant-loop-from
invariant-loop-from l = record {
  long : length l.rows.items ≡ l.from;
  each : (i : ℕ) (r : Row) → slice_get l.rows.items i ≡ Some r → AreValuesFrom l.entries (plain_site l.site) l.most i r.values.items;
}
