use Rattle.pv_columns.specs.Rows.{AddsEdges}
use Rattle.pv_columns.proofs.rows.push_edges.Given as goal

abbrev pub invariant-loop-column : goal.invariant-loop-column
invariant-loop-column l = AddsEdges l.left l.columns l.column-index l.initial.edges.items l.edges.items
