use Rattle.std.proofs.Common.{drop, ◌*◌, ◌+◌, ◌≡◌, ◌≤◌}
use Rattle.pv_cache.specs.LaidMarks.{lists_in_all}
use Rattle.pv_tree.specs.Plain.{nodes_in, nodes_in_all}
use Rattle.pv_tree.specs.PlainForms.{forest, plain}
use Rattle.pv_conversation.proofs.verdict_lines.+count.Given as goal

-- those that were counted, and those of the rest
abbrev pub invariant-lists_in_all-loop-kid : goal.invariant-lists_in_all-loop-kid
invariant-lists_in_all-loop-kid l = record {
  few_nodes : nodes_in_all (forest (drop l.kid-index l.kids)) ≤ nodes_in_all (forest l.kids);
  goes : l.count + lists_in_all (forest (drop l.kid-index l.kids)) ≡ lists_in_all (forest l.kids);
}

abbrev pub decreases-lists_in : goal.decreases-lists_in
decreases-lists_in l = 2 * nodes_in (plain l.node.now)

abbrev pub decreases-lists_in_all : goal.decreases-lists_in_all
decreases-lists_in_all l = 2 * nodes_in_all (forest l.kids.now) + 1
