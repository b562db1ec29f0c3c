-- The forest of some nodes, and the number of its nodes.
use Rattle.std.proofs.Common.{◌≡◌, ℕ, ◌+◌, ◌<◌, ◌≤◌, List, [], ◌∷◌, length, drop, get_or, refl, ap, ◌∙◌, sym, arith}
use Rattle.std.proofs.lemmas.List.{drop_all, drop_more}
use Rattle.pv_tree.specs.Plain.{Tree, element, text_node, cdata_node, misc_node, no_trees, tree, nodes_in, nodes_in_all}
use Rattle.pv_tree.specs.PlainForms.{plain, forest}
use Rattle.pv_tree.specs.declared.nodes.Node.{Node}

pub forest-drop : (nodes : List Node) (i : ℕ) (kid : Node) → i < length nodes → kid ≡ get_or nodes i kid → forest (drop i nodes) ≡ tree (plain kid) (forest (drop (i + 1) nodes))
forest-drop nodes i kid h e = ap forest (drop_more nodes i kid h) ∙ ap (λ k. tree (plain k) (forest (drop (i + 1) nodes))) (sym e)

pub forest-end : (nodes : List Node) (i : ℕ) → length nodes ≤ i → forest (drop i nodes) ≡ no_trees
forest-end nodes i h = rw (drop_all i nodes h) refl

some_node : {M : Type 0} (t : Tree M) → 1 ≤ nodes_in t
some_node (element x attrs ending kids mark) = omega arith
some_node (text_node units) = omega arith
some_node (cdata_node bytes) = omega arith
some_node (misc_node bytes) = omega arith

pub length-nodes : (nodes : List Node) → length nodes ≤ nodes_in_all (forest nodes)
length-nodes [] = omega arith
length-nodes (node ∷ nodes) = omega (arith, some_node (plain node), length-nodes nodes)
