use Rattle.std.proofs.Common.{◌-◌}
use Rattle.pv_table_check.proofs.EntryOrder.{IsSplit}
use Rattle.pv_table_check.proofs.lookup.count_before.Given as goal

abbrev pub invariant-halves : goal.invariant-halves
invariant-halves l = IsSplit l.entries l.probe l.low l.high

abbrev pub decreases-halves : goal.decreases-halves
decreases-halves l = l.high - l.low
