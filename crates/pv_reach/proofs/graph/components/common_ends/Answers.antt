use Rattle.std.proofs.Common.{arith, length, ◌≡◌}
use Rattle.std.proofs.lemmas.Grind.{common_steps}
use Rattle.pv_reach.proofs.EdgeSweeps.{head_more}
use Rattle.pv_reach.proofs.graph.components.common_ends.Goals as goal

pub loop-column-preserved : goal.loop-column-preserved
loop-column-preserved c = record {
  long = let i = c.loop-column.invariant.long in let e = c.in_ok-push.ensures.items in grind (arith, common_steps);
  are = head_more c.args.above.now c.args.below.now c.loop-column.heads.items c.push.new.self.items
      c.loop-column.column c.common_end.result c.in_ok-push.ensures.items
      c.loop-column.invariant.long c.common_end.ensures
      c.loop-column.invariant.are;
}

pub returns : goal.returns
returns c =
    let z : c.loop-column.column ≡ length c.args.above.now = let t = c.loop-column-test.false in let a = c.loop-column.auto.column-end in omega arith in
    let long = c.loop-column.invariant.long in
    ((omega arith), (λ x lt. c.loop-column.invariant.are x (omega arith)))
