use Rattle.std.proofs.Common.{◌≡◌, drop}
use Rattle.pv_tree.specs.PlainForms.{plain_all}
use Rattle.pv_edit.specs.CloseMarks.{search_trees}
use Rattle.pv_edit.proofs.close_marks.search_nodes.Given as goal

abbrev pub invariant-loop-node : goal.invariant-loop-node
invariant-loop-node l = search_trees l.at_end (plain_all (drop l.node-index l.nodes)) ≡ search_trees l.fn.before (plain_all l.nodes)
