use Rattle.std.proofs.Common.{All, length, ◌<◌, ◌≤◌}
use Rattle.pv_reach.proofs.columns.led.set_alone.Given as goal

abbrev pub invariant-loop-column : goal.invariant-loop-column
invariant-loop-column l = record {
  below : All (λ a. a < l.width) l.led.items;
  few : length l.led.items ≤ l.column;
}
