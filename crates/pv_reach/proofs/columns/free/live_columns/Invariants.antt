use Rattle.pv_columns.specs.Marks.{AreNullable}
use Rattle.std.proofs.Common.{length, ◌≡◌}
use Rattle.pv_reach.proofs.columns.free.live_columns.Given as goal

abbrev pub invariant-loop-column : goal.invariant-loop-column
invariant-loop-column l = record {
  long : length l.live.items ≡ l.wider;
  bare : AreNullable l.merged l.live.items;
}
