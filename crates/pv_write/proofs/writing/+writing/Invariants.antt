use Rattle.std.proofs.Common.{◌≡◌, ◌++◌, drop}
use Rattle.pv_tree.specs.PlainForms.{forest}
use Rattle.pv_write.specs.Text.{forest_text}
use Rattle.pv_write.proofs.writing.+writing.Given as goal

-- what is written so far, and then the nodes that are left
abbrev pub invariant-write_all-loop-node : goal.invariant-write_all-loop-node
invariant-write_all-loop-node l = l.out.items ++ forest_text (forest (drop l.node-index l.nodes)) ≡ l.fn.out.items ++ forest_text (forest l.nodes)
