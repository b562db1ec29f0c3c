use Rattle.std.proofs.Common.{List, length, ℕ, ◌*◌, ◌+◌, ◌≤◌}
use Rattle.pv_tree.specs.Lists.{lists_from}
use Rattle.pv_tree.specs.Plain.{nodes_in, nodes_in_all}
use Rattle.pv_tree.specs.PlainForms.{forest, plain}
use Rattle.pv_parallel.specs.Jobs.{Adds}
use Rattle.pv_parallel.specs.declared.gathering.Gathering.{Gathering}
use Rattle.pv_parallel.proofs.gathering.+gathering.Given as goal

-- what the rest adds, all add
abbrev pub invariant-add_nodes-runs : goal.invariant-add_nodes-runs
invariant-add_nodes-runs l = record {
  adds : (last : Gathering) → ((path : List ℕ) (i : ℕ) →
      Adds (lists_from path i (forest l.rest)) l.gathering last) → (path : List ℕ) (i : ℕ) →
      Adds (lists_from path i (forest l.nodes)) l.fn.gathering last;
  few : l.gathering.count + nodes_in_all (forest l.rest) ≤ l.fn.gathering.count + nodes_in_all (forest l.nodes);
  smaller : nodes_in_all (forest l.rest) ≤ nodes_in_all (forest l.nodes);
}

abbrev pub decreases-add_nodes-runs : goal.decreases-add_nodes-runs
decreases-add_nodes-runs l = length l.rest

abbrev pub decreases-add_nodes : goal.decreases-add_nodes
decreases-add_nodes l = 3 * nodes_in_all (forest l.nodes.now) + 2

abbrev pub decreases-add_front : goal.decreases-add_front
decreases-add_front l = 3 * nodes_in_all (forest l.nodes.now) + 1

abbrev pub decreases-add_large : goal.decreases-add_large
decreases-add_large l = 3 * nodes_in (plain l.node.now)
