use Rattle.std.proofs.Common.{length, ◌≡◌}
use Rattle.pv_columns.specs.Marks.{AreNullable, unmarked}
use Rattle.pv_columns.proofs.marks.close_marks.Given as goal

abbrev pub invariant-loop : goal.invariant-loop
invariant-loop l = record {
  long : length l.marks ≡ length l.initial.marks;
  bare : AreNullable l.rules l.initial.marks → AreNullable l.rules l.marks;
}

abbrev pub decreases-loop : goal.decreases-loop
decreases-loop l = unmarked l.marks
