use Rattle.std.proofs.Common.{Contains, ◌⊎◌}
use Rattle.pv_reach.specs.LeadingColumns.{IsRightEdgeOf}
use Rattle.pv_columns.specs.declared.layers.Edge.{Edge}
use Rattle.pv_reach.proofs.graph.edges.push_edges.Given as goal

abbrev pub invariant-loop-column : goal.invariant-loop-column
invariant-loop-column l = (e : Edge) → Contains l.edges.items e → Contains l.initial.edges.items e ⊎ IsRightEdgeOf l.rule e
