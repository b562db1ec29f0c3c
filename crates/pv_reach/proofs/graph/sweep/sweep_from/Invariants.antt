use Rattle.std.proofs.Common.{length, ◌≡◌}
use Rattle.pv_reach.specs.LeadingColumns.{AreLed}
use Rattle.pv_reach.proofs.graph.sweep.sweep_from.Given as goal

abbrev pub invariant-loop-column : goal.invariant-loop-column
invariant-loop-column l = record {
  long : length l.sweep.table.items ≡ l.width;
  led : AreLed l.edges l.sweep.table.items;
}
