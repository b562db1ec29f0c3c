use Rattle.std.proofs.Common.{Contains, get_or, ℕ, ◌<◌}
use Rattle.pv_columns.specs.declared.rules.ColumnRule.{ColumnRule}
use Rattle.pv_columns.specs.Rows.{HasEdges, IsEdgeOf}
use Rattle.pv_columns.specs.declared.layers.Edge.{Edge}
use Rattle.pv_columns.proofs.rows.edges_of.Given as goal

abbrev pub invariant-loop-rule : goal.invariant-loop-rule
invariant-loop-rule l = record {
  sound : (e : Edge) → Contains l.edges.items e → (r : ColumnRule) × Contains l.rules r × IsEdgeOf l.live r e;
  complete : (k : ℕ) (d : ColumnRule) → k < l.rule-index → HasEdges l.live l.edges.items (get_or l.rules k d);
}
