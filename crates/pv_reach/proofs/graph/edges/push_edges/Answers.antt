use Rattle.std.proofs.Common.{List, ap, get_or, length, refl, subst, ℕ, ◌<◌}
use Rattle.pv_columns.specs.declared.layers.Edge.{Edge}
use Rattle.pv_reach.proofs.EdgeSweeps.{edge_more}
use Rattle.pv_reach.proofs.graph.edges.push_edges.Goals as goal

pub loop-column-preserved : goal.loop-column-preserved
loop-column-preserved c =
    let k = c.loop-column.column-index in
    let r = c.args.rule.now in
    let cs = c.deref-column-items.result.now in
    let P : List ℕ → Type 0 = λ v. k < length v in
    let e : Edge = record { from = r.left; to = get_or cs k 0 } in
    edge_more c.args.edges.now.items c.loop-column.edges.items c.push.new.self.items r e k c.in_ok-push.ensures.items (subst P c.deref-column-items.ensures.value c.loop-column-test.true) refl
    (ap (λ v. get_or v k 0) c.deref-column-items.ensures.value) c.loop-column.invariant
