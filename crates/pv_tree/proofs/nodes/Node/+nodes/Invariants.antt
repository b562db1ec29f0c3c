use Rattle.std.proofs.Common.{◌≡◌, ◌+◌, drop}
use Rattle.pv_tree.specs.Plain.{nodes_in, nodes_in_all}
use Rattle.pv_tree.specs.PlainForms.{plain, forest}
use Rattle.pv_tree.proofs.nodes.Node.+nodes.Given as goal

abbrev pub invariant-loop-kid : goal.invariant-loop-kid
invariant-loop-kid l = l.sum + nodes_in_all (forest (drop l.kid-index l.kid-items)) ≡ nodes_in (plain l.self)
