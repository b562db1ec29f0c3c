use Rattle.std.proofs.Common.{length, ◌≡◌}
use Rattle.pv_reach.specs.LeadingColumns.{AreLed}
use Rattle.pv_reach.proofs.graph.sweep.go_on.Given as goal

abbrev pub invariant-loop-at : goal.invariant-loop-at
invariant-loop-at l = record {
  led : AreLed l.edges l.sweep.table.items;
  long : length l.sweep.table.items ≡ length l.initial.sweep.table.items;
}
