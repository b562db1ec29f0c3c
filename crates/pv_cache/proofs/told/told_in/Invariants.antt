use Rattle.std.proofs.Common.{◌≡◌, ◌+◌, drop}
use Rattle.pv_tree.specs.PlainForms.{forest}
use Rattle.pv_cache.specs.WellMarked.{told_left_in, told_nodes_in}
use Rattle.pv_cache.proofs.told.told_in.Given as goal

-- what was told so far, and what is left
abbrev pub invariant-loop-kid : goal.invariant-loop-kid
invariant-loop-kid l =
    (l.left + told_left_in (forest (drop l.kid-index l.kids)) ≡ told_left_in (forest l.kids))
    × (l.nodes + told_nodes_in (forest (drop l.kid-index l.kids)) ≡ told_nodes_in (forest l.kids))
