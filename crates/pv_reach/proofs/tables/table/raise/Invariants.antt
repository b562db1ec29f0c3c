use Rattle.std.proofs.Common.{◌≡◌, ◌≤◌, ◌<◌, List, ℕ, suc, length, false, true, get_or}
use Rattle.pv_columns.specs.ColumnRules.{InRange}
use Rattle.pv_columns.specs.declared.rules.ColumnRule.{ColumnRule}
use Rattle.pv_reach.specs.Tables.{AreAmong, IsTable, IsReachedTable, RaisesNothing, room}
use Rattle.pv_reach.proofs.tables.table.raise.Given as goal

abbrev pub invariant-loop-rule : goal.invariant-loop-rule
invariant-loop-rule l = record {
  table : IsTable l.word l.width l.table;
  attained : (all : List ColumnRule) → InRange l.width all → AreAmong l.rules all → IsReachedTable all l.word l.width l.initial.table → IsReachedTable all l.word l.width l.table;
  rises : (k : ℕ) → get_or l.initial.table k 0 ≤ get_or l.table k 0;
  same : l.changed ≡ false → l.table ≡ l.initial.table;
  closed : l.changed ≡ false → (k : ℕ) (d : ColumnRule) → k < l.rule-index → RaisesNothing l.word l.width l.initial.table l.place (get_or l.rules k d);
  less : l.changed ≡ true → room (suc (length l.word)) l.table < room (suc (length l.word)) l.initial.table;
  most : room (suc (length l.word)) l.table ≤ room (suc (length l.word)) l.initial.table;
}
