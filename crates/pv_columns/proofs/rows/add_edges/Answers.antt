use Rattle.std.proofs.Common.{List, length, subst, ℕ}
use Rattle.pv_columns.specs.Rows.{AddsEdges}
use Rattle.pv_columns.proofs.EdgesAndSeeds.{edges_has, edges_only}
use Rattle.pv_columns.proofs.rows.add_edges.Goals as goal

pub returns-in_ok-push_edges-clause-only : goal.returns-in_ok-push_edges-clause-only
returns-in_ok-push_edges-clause-only c =
    let r = c.args.rule.now in
    let P : List ℕ → Type 0 = λ v. AddsEdges r.left v (length v) c.args.edges.now.items c.push_edges.new.edges.items in
    let adds = subst P c.as_slice.ensures.value c.in_ok-push_edges.ensures in
    edges_only c.args.live.now r c.args.edges.now.items c.push_edges.new.edges.items (c.is_open.ensures.token c.if-is_open.true) (c.is_open.ensures.marked c.if-is_open.true) adds

pub returns-in_ok-push_edges-clause-has : goal.returns-in_ok-push_edges-clause-has
returns-in_ok-push_edges-clause-has c =
    let r = c.args.rule.now in
    let P : List ℕ → Type 0 = λ v. AddsEdges r.left v (length v) c.args.edges.now.items c.push_edges.new.edges.items in
    edges_has c.args.live.now r c.args.edges.now.items c.push_edges.new.edges.items (subst P c.as_slice.ensures.value c.in_ok-push_edges.ensures)

pub returns-else-is_open-clause-has : goal.returns-else-is_open-clause-has
returns-else-is_open-clause-has c = λ s a k l. absurd (c.is_open.ensures.no c.if-is_open.false s a)
