use Rattle.pv_reach.specs.LeadingColumns.{Turned}
use Rattle.pv_reach.proofs.graph.edges.turned_edges.Given as goal

abbrev pub invariant-loop-edge : goal.invariant-loop-edge
invariant-loop-edge l = Turned l.edges l.turned.items
