use Rattle.std.proofs.Common.{◌≡◌, drop, max}
use Rattle.pv_tree.specs.Plain.{depth_of_all}
use Rattle.pv_tree.specs.PlainForms.{forest}
use Rattle.pv_edit.proofs.shapes.+depth.Given as goal

abbrev pub invariant-depth_of_all-loop-node : goal.invariant-depth_of_all-loop-node
invariant-depth_of_all-loop-node l = max l.deepest (depth_of_all (forest (drop l.node-index l.nodes))) ≡ depth_of_all (forest l.nodes)
