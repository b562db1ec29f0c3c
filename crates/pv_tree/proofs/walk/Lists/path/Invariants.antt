use Rattle.std.proofs.Common.{◌≡◌, ◌++◌, drop, map}
use Rattle.pv_tree.specs.Walks.{place_before}
use Rattle.pv_tree.proofs.walk.Lists.path.Given as goal

-- the places so far, and then those of the levels that are left
abbrev pub invariant-loop-nodes : goal.invariant-loop-nodes
invariant-loop-nodes l = l.places.items ++ map place_before (drop l.nodes-index l.nodes-items) ≡ map place_before l.nodes-items
