use Rattle.std.proofs.Common.{◌≡◌, ◌+◌, drop, max}
use Rattle.pv_tree.specs.Plain.{depth_of, depth_of_all}
use Rattle.pv_tree.specs.PlainForms.{plain, forest}
use Rattle.pv_tree.proofs.nodes.Node.+depth.Given as goal

abbrev pub invariant-loop-kid : goal.invariant-loop-kid
invariant-loop-kid l = 1 + max l.deepest (depth_of_all (forest (drop l.kid-index l.kid-items))) ≡ depth_of (plain l.self)
