use Rattle.std.proofs.Common.{drop, ◌*◌, ◌+◌, ◌≡◌, ◌≤◌}
use Rattle.pv_tree.specs.Plain.{nodes_in, nodes_in_all}
use Rattle.pv_tree.specs.PlainForms.{forest, plain}
use Rattle.pv_cache.specs.WellMarked.{bad_in_all}
use Rattle.pv_cache.proofs.bad_lists.+count.Given as goal

-- those that were counted, and those of the rest
abbrev pub invariant-bad_in_all-loop-kid : goal.invariant-bad_in_all-loop-kid
invariant-bad_in_all-loop-kid l = record {
  few_nodes : nodes_in_all (forest (drop l.kid-index l.kids)) ≤ nodes_in_all (forest l.kids);
  goes : l.bad + bad_in_all (forest (drop l.kid-index l.kids)) ≡ bad_in_all (forest l.kids);
}

abbrev pub decreases-bad_in : goal.decreases-bad_in
decreases-bad_in l = 2 * nodes_in (plain l.node.now)

abbrev pub decreases-bad_in_all : goal.decreases-bad_in_all
decreases-bad_in_all l = 2 * nodes_in_all (forest l.kids.now) + 1
