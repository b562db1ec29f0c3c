use Rattle.std.proofs.Common.{get_or, refl}
use Rattle.pv_columns.specs.declared.layers.Edge.{Edge}
use Rattle.pv_columns.proofs.EdgesAndSeeds.{edges_more}
use Rattle.pv_columns.proofs.rows.push_edges.Goals as goal

pub loop-column-preserved : goal.loop-column-preserved
loop-column-preserved c =
    let k = c.loop-column.column-index in
    let e : Edge = record { from = c.args.left; to = get_or c.args.columns.now k 0 } in
    edges_more c.args.left k c.args.columns.now c.args.edges.now.items c.loop-column.edges.items
    c.push.new.self.items e c.in_ok-push.ensures.items c.loop-column-test.true refl refl
    c.loop-column.invariant
