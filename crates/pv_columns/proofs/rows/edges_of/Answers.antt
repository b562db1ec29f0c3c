use Rattle.std.proofs.Common.{Contains, arith, get_or, inl, inr, subst, sym}
use Rattle.pv_columns.specs.Rows.{HasEdges}
use Rattle.pv_columns.proofs.ClosedMarks.{all_hold, holds_more}
use Rattle.pv_columns.proofs.EdgesAndSeeds.{edges_grow}
use Rattle.pv_columns.proofs.rows.edges_of.Goals as goal

pub loop-rule-preserved : goal.loop-rule-preserved
loop-rule-preserved c =
    let rules = c.args.rules.now in let live = c.args.live.now in
    let r = c.rule-item.result in
    let con : Contains rules r = (c.loop-rule.rule-index, c.loop-rule-test.true, sym c.rule-item.is) in
    let adds = c.in_ok-add_edges.ensures in
    let old = c.loop-rule.edges.items in let new = c.add_edges.new.edges.items in
    let before = c.loop-rule.invariant in
    record {
      sound = λ e h. elim (adds.only e h) [
        | inl o ↦ before.sound e o
        | inr o ↦ (r, con, o)
      ];
      complete = holds_more (HasEdges live new) rules c.loop-rule.rule-index r c.loop-rule-test.true (subst (HasEdges live new) c.rule-item.is adds.has)
          (λ k d l. edges_grow live old new adds.grow (get_or rules k d) (before.complete k d l));
    }

pub returns : goal.returns
returns c = record {
  sound = c.loop-rule.invariant.sound;
  complete = all_hold (HasEdges c.args.live.now c.loop-rule.edges.items) c.args.rules.now (λ k d l. c.loop-rule.invariant.complete k d (let z = c.loop-rule-test.false in omega arith));
}
