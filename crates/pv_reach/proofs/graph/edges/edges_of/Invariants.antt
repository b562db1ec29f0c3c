use Rattle.pv_reach.specs.LeadingColumns.{AreRightEdges}
use Rattle.pv_reach.proofs.graph.edges.edges_of.Given as goal

abbrev pub invariant-loop-rule : goal.invariant-loop-rule
invariant-loop-rule l = AreRightEdges l.rules l.edges.items
