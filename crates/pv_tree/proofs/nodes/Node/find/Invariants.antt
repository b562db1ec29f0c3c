use Rattle.std.proofs.Common.{◌≡◌, drop}
use Rattle.pv_tree.specs.Places.{node_below}
use Rattle.pv_tree.specs.PlainForms.{plain}
use Rattle.pv_tree.proofs.nodes.Node.find.Given as goal

abbrev pub invariant-loop-place : goal.invariant-loop-place
invariant-loop-place l = node_below (drop l.place-index l.path) (plain l.at) ≡ node_below l.path (plain l.self)
