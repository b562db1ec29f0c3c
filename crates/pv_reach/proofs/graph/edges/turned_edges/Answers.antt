use Rattle.std.proofs.Common.{Contains, get_or, refl}
use Rattle.std.proofs.lemmas.List.{get_or_default}
use Rattle.pv_columns.specs.declared.layers.Edge.{Edge}
use Rattle.pv_reach.proofs.EdgeSweeps.{turned_more, turned_none}
use Rattle.pv_reach.proofs.graph.edges.turned_edges.Goals as goal

pub loop-edge-init : goal.loop-edge-init
loop-edge-init c = turned_none c.args.edges.now c.new-turned.result.items c.new-turned.ensures.items

pub loop-edge-preserved : goal.loop-edge-preserved
loop-edge-preserved c =
    let edges = c.args.edges.now in let i = c.loop-edge.edge-index in
    let none : Edge = record { from = 0; to = 0 } in
    let f : Edge = get_or edges i none in
    let con : Contains edges f = (i, c.loop-edge-test.true, get_or_default edges i f none c.loop-edge-test.true) in
    let e : Edge = record { from = f.to; to = f.from } in
    turned_more edges c.loop-edge.turned.items c.push.new.self.items e f c.in_ok-push.ensures.items con refl refl c.loop-edge.invariant
