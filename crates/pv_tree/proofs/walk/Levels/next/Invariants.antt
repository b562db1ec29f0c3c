use Rattle.std.proofs.Common.{◌≡◌, ◌+◌}
use Rattle.pv_tree.specs.Plain.{nodes_in_all}
use Rattle.pv_tree.specs.PlainForms.{forest}
use Rattle.pv_tree.specs.Walks.{left_of}
use Rattle.pv_tree.proofs.Walks.{levels_above}
use Rattle.pv_tree.proofs.walk.Levels.next.Given as goal

-- no list is passed
abbrev pub invariant-nodes : goal.invariant-nodes
invariant-nodes l = left_of l.self.above.items l.self.here ≡ left_of l.fn.self.above.items l.fn.self.here

-- the nodes that are left, and the levels
abbrev pub decreases-nodes : goal.decreases-nodes
decreases-nodes l = levels_above l.self.above.items + nodes_in_all (forest l.self.here.nodes.now)
