use Rattle.std.proofs.Common.{◌≡◌, drop}
use Rattle.pv_tree.specs.PlainForms.{plain_all}
use Rattle.pv_edit.specs.CloseMarks.{search_run}
use Rattle.pv_edit.proofs.close_marks.search_run.Given as goal

abbrev pub invariant-loop-node : goal.invariant-loop-node
invariant-loop-node l = search_run l.at_end (plain_all (drop l.node-index l.nodes)) ≡ search_run l.fn.before (plain_all l.nodes)
