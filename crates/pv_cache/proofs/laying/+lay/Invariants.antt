use Rattle.std.proofs.Common.{◌*◌, ◌+◌, ◌-◌, length}
use Rattle.pv_tree.specs.Plain.{nodes_in, nodes_in_all}
use Rattle.pv_tree.specs.PlainForms.{forest, plain}
use Rattle.pv_cache.proofs.LaidLevels.{AreLaid}
use Rattle.pv_cache.proofs.laying.+lay.Given as goal

-- the nodes so far are laid out
abbrev pub invariant-lay_kids-kids : goal.invariant-lay_kids-kids
invariant-lay_kids-kids l =
    AreLaid l.verdicts.verdicts l.number l.fn.kids.items l.kids.items l.i l.next

abbrev pub decreases-lay_node : goal.decreases-lay_node
decreases-lay_node l = 2 * nodes_in (plain l.node.now)

abbrev pub decreases-lay_kids : goal.decreases-lay_kids
decreases-lay_kids l = 2 * nodes_in_all (forest l.kids.now.items) + 1

abbrev pub decreases-lay_kids-kids : goal.decreases-lay_kids-kids
decreases-lay_kids-kids l = length l.kids.items - l.i
