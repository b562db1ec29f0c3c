use Rattle.std.proofs.Common.{length, ◌≡◌}
use Rattle.pv_reach.specs.LeadingColumns.{AreLed}
use Rattle.pv_reach.specs.Searches.{numbers_left}
use Rattle.pv_reach.proofs.graph.sweep.come_from.Given as goal

abbrev pub invariant-loop-next : goal.invariant-loop-next
invariant-loop-next l = record {
  led : AreLed l.edges l.sweep.table.items;
  long : length l.sweep.table.items ≡ length l.initial.sweep.table.items;
}

abbrev pub decreases-loop-next : goal.decreases-loop-next
decreases-loop-next l = numbers_left l.chains l.next
