use Rattle.std.proofs.Common.{◌≡◌, ◌++◌, drop, map}
use Rattle.pv_tree.specs.PlainForms.{plain}
use Rattle.pv_tree.proofs.nodes.+copy.Given as goal

-- what is copied so far, and then the nodes that are left
abbrev pub invariant-copy_all-loop-node : goal.invariant-copy_all-loop-node
invariant-copy_all-loop-node l = map plain l.copies.items ++ map plain (drop l.node-index l.nodes) ≡ map plain l.nodes
