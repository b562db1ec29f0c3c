use Rattle.std.proofs.Common.{length, ◌-◌, ◌≤◌}
use Rattle.pv_bounds.proofs.Stretches.{BeginBehind}
use Rattle.pv_bounds.proofs.windows.beginning_behind.Given as goal

abbrev pub invariant-halves : goal.invariant-halves
invariant-halves l = record {
  order : l.low ≤ l.high;
  within : l.high ≤ length l.records;
  behind : BeginBehind l.records l.place l.low;
}

abbrev pub decreases-halves : goal.decreases-halves
decreases-halves l = l.high - l.low
