use Rattle.std.proofs.Common.{Contains, List, arith, get_or, subst, sym, true≢false, ℕ, ◌∙◌, ◌≡◌}
use Rattle.std.proofs.lemmas.List.{get_or_default}
use Rattle.pv_columns.specs.EdgeFlows.{Holds, Joins}
use Rattle.pv_columns.specs.declared.layers.Edge.{Edge}
use Rattle.pv_columns.proofs.EdgeJoins.{holds_more, joins_attained, joins_grow, joins_hold}
use Rattle.pv_columns.proofs.layers.raise.Goals as goal
use Rattle.pv_columns.proofs.layers.raise.Goals.{else-join, then-join}

pub loop-edge-preserved : goal.loop-edge-preserved
loop-edge-preserved c =
    let edges = c.args.edges.now in let i = c.loop-edge.edge-index in
    let none : Edge = record { from = 0; to = 0 } in
    let e : Edge = get_or edges i none in
    let con : Contains edges e = (i, c.loop-edge-test.true, get_or_default edges i e none c.loop-edge-test.true) in
    let before = c.loop-edge.invariant in
    let j : Joins e c.loop-edge.layer c.join.new.layer = c.join.ensures.joins in
    elim c.if-join.branch [
      | then-join w ↦ record {
        long = j.long ∙ before.long;
        attained = λ seeds a. joins_attained e c.loop-edge.layer c.join.new.layer j edges seeds con (before.attained seeds a);
        grow = λ d k h. joins_grow e c.loop-edge.layer c.join.new.layer j d k (before.grow d k h);
        same = λ z. absurd (true≢false (sym w.changed-is ∙ z));
        closed = λ z. absurd (true≢false (sym w.changed-is ∙ z));
        less = λ _. let a = c.join.ensures.less w.if-join.true in let b = before.most in omega arith;
        most = let a = c.join.ensures.less w.if-join.true in let b = before.most in omega arith;
      }
      | else-join w ↦ (
          let kept : c.join.new.layer ≡ c.loop-edge.layer = c.join.ensures.same w.if-join.false in
          record {
            long = j.long ∙ before.long;
            attained = λ seeds a. joins_attained e c.loop-edge.layer c.join.new.layer j edges seeds con (before.attained seeds a);
            grow = λ d k h. joins_grow e c.loop-edge.layer c.join.new.layer j d k (before.grow d k h);
            same = λ z. kept ∙ before.same (sym w.changed-is ∙ z);
            closed = λ z.
                let P : List ℕ → Type 0 = λ v. Holds v e in
                let here = subst P (before.same (sym w.changed-is ∙ z)) (joins_hold e c.loop-edge.layer c.join.new.layer j kept) in
                holds_more (Holds c.args.layer.now) edges i none c.loop-edge-test.true here (before.closed (sym w.changed-is ∙ z));
            less = λ z. let a = before.less (sym w.changed-is ∙ z) in rw kept a;
            most = let b = before.most in rw kept b;
          })
    ]
