use Rattle.std.proofs.Common.{false, get_or, length, true, ℕ, ◌<◌, ◌≡◌, ◌≤◌}
use Rattle.pv_columns.specs.Marks.{AreNullable, HoldsMark, unmarked}
use Rattle.pv_columns.specs.declared.rules.ColumnRule.{ColumnRule}
use Rattle.pv_columns.proofs.marks.mark_more.Given as goal

abbrev pub invariant-loop-rule : goal.invariant-loop-rule
invariant-loop-rule l = record {
  long : length l.marks ≡ length l.initial.marks;
  bare : AreNullable l.rules l.initial.marks → AreNullable l.rules l.marks;
  same : l.changed ≡ false → l.marks ≡ l.initial.marks;
  closed : l.changed ≡ false → (k : ℕ) (d : ColumnRule) → k < l.rule-index → HoldsMark l.initial.marks (get_or l.rules k d);
  fewer : l.changed ≡ true → unmarked l.marks < unmarked l.initial.marks;
  most : unmarked l.marks ≤ unmarked l.initial.marks;
}
