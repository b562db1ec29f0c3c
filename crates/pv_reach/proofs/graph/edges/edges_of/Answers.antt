use Rattle.std.proofs.Common.{Contains, sym}
use Rattle.pv_columns.proofs.ClosedMarks.{marked_at}
use Rattle.pv_reach.proofs.LinkedColumns.{edges_more, edges_none}
use Rattle.pv_reach.proofs.graph.edges.edges_of.Goals.{then-is_open+in_ok-push_edges, else-is_open}
use Rattle.pv_reach.proofs.graph.edges.edges_of.Goals as goal

pub loop-rule-init : goal.loop-rule-init
loop-rule-init c = edges_none c.args.rules.now c.new-edges.result.items c.new-edges.ensures.items

pub loop-rule-preserved : goal.loop-rule-preserved
loop-rule-preserved c =
    let r = c.rule-item.result in
    let con : Contains c.args.rules.now r = (c.loop-rule.rule-index, c.loop-rule-test.true, sym c.rule-item.is) in
    elim c.if-is_open.branch [
      | then-is_open+in_ok-push_edges w ↦
          rw w.edges-is
          (edges_more c.args.rules.now c.args.bare.now c.loop-rule.edges.items
          w.push_edges.new.edges.items r con (c.is_open.ensures.token w.if-is_open.true)
          (marked_at c.args.bare.now r.columns.items
          (c.is_open.ensures.marked w.if-is_open.true)) c.requires
          c.loop-rule.invariant w.in_ok-push_edges.ensures)
      | else-is_open w ↦ rw w.edges-is c.loop-rule.invariant
    ]
