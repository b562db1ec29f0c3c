use Rattle.std.proofs.Common.{arith, refl, subst, sym, take, ℕ}
use Rattle.pv_tree.specs.Lists.{lists_from}
use Rattle.pv_tree.specs.PlainForms.{forest}
use Rattle.pv_parallel.specs.Sizes.{Measures}
use Rattle.pv_parallel.proofs.JobLists.{measured_next}
use Rattle.pv_parallel.proofs.sizes.small_front.Goals as goal

pub loop-node-preserved : goal.loop-node-preserved
loop-node-preserved c = record {
  number = let n = c.loop-node.invariant.number in omega arith;
  measured = measured_next c.args.nodes.now c.loop-node.node-index c.node-item.result
      c.loop-node.front _ c.loop-node.tally c.count_node.new.tally (omega arith) c.node-item.is
      c.loop-node.invariant.measured
      c.loop-node.invariant.same.0 c.loop-node.invariant.same.1 (c.if-not-count_node.ensures.counted refl) refl refl;
  same = (refl, refl);
  bounded = let own = c.if-not-count_node.ensures.bounded in let so_far = c.loop-node.invariant.bounded in omega arith;
}

pub returns-then-not-count_node-clause-lists : goal.returns-then-not-count_node-clause-lists
returns-then-not-count_node-clause-lists c = λ path i.
    subst (λ (n : ℕ). Measures (lists_from path i (forest (take n c.args.nodes.now))) c.loop-node.front) (sym c.loop-node.invariant.number) (c.loop-node.invariant.measured path i)

pub returns-clause-lists : goal.returns-clause-lists
returns-clause-lists c = λ path i.
    subst (λ (n : ℕ). Measures (lists_from path i (forest (take n c.args.nodes.now))) c.loop-node.front) (sym c.loop-node.invariant.number) (c.loop-node.invariant.measured path i)
