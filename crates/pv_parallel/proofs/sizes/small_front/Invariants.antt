use Rattle.std.proofs.Common.{List, take, ℕ, ◌+◌, ◌≡◌, ◌≤◌}
use Rattle.pv_tree.specs.Lists.{lists_from}
use Rattle.pv_tree.specs.PlainForms.{forest}
use Rattle.pv_parallel.specs.Sizes.{Measures}
use Rattle.pv_parallel.proofs.sizes.small_front.Given as goal

abbrev pub invariant-loop-node : goal.invariant-loop-node
invariant-loop-node l = record {
  number : l.front.count ≡ l.node-index;
  measured : (path : List ℕ) (i : ℕ) → Measures (lists_from path i (forest (take l.node-index l.nodes))) l.front;
  same : (l.tally.lists ≡ l.front.lists) × (l.tally.longest ≡ l.front.longest);
  bounded : l.tally.lists + l.tally.left ≤ 1024;
}
