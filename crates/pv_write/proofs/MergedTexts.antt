-- Trees whose texts side by side are one text: they show the same, and stand as deep.
use Rattle.std.proofs.Common.{◌≡◌, ℕ, suc, List, [], ◌∷◌, ◌++◌, max, refl, ap, ◌∙◌, append_assoc, arith}
use Rattle.pv_tree.specs.Plain.{Tree, element, text_node, cdata_node, misc_node, Forest, no_trees, tree, depth_of, depth_of_all}
use Rattle.pv_dtd.specs.Hedge.{Hedge, elem, leaf}
use Rattle.pv_tree.specs.View.{unit_leaf, spread, view_before, view_all}
use Rattle.pv_tree.specs.Legal.{front_units}

-- a tree before others, with which a text becomes one
abbrev pub put : {M : Type 0} → Tree M → Forest M → Forest M
put (text_node units) no_trees = tree (text_node units) no_trees
put (text_node units) (tree (text_node more) kids) = tree (text_node (units ++ more)) kids
put (text_node units) (tree (element x attrs ending nodes mark) kids) = tree (text_node units) (tree (element x attrs ending nodes mark) kids)
put (text_node units) (tree (cdata_node held) kids) = tree (text_node units) (tree (cdata_node held) kids)
put (text_node units) (tree (misc_node held) kids) = tree (text_node units) (tree (misc_node held) kids)
put (element x attrs ending nodes mark) kids = tree (element x attrs ending nodes mark) kids
put (cdata_node held) kids = tree (cdata_node held) kids
put (misc_node held) kids = tree (misc_node held) kids

abbrev mutual
  pub merged : {M : Type 0} → Tree M → Tree M
  merged (element x attrs ending kids mark) = element x attrs ending (merged_all kids) mark
  merged (text_node units) = text_node units
  merged (cdata_node held) = cdata_node held
  merged (misc_node held) = misc_node held

  pub merged_all : {M : Type 0} → Forest M → Forest M
  merged_all no_trees = no_trees
  merged_all (tree t kids) = put (merged t) (merged_all kids)

spread-append : (units more : List (List ℕ)) (h : Hedge) → spread (units ++ more) h ≡ spread units (spread more h)
spread-append [] more h = refl
spread-append (unit ∷ units) more h = ap (leaf (unit_leaf unit)) (spread-append units more h)

view_all-put : {M : Type 0} (t : Tree M) (kids : Forest M) → view_all (put t kids) ≡ view_before t (view_all kids)
view_all-put (text_node units) no_trees = refl
view_all-put (text_node units) (tree (text_node more) kids) = spread-append units more (view_all kids)
view_all-put (text_node units) (tree (element x attrs ending nodes mark) kids) = refl
view_all-put (text_node units) (tree (cdata_node held) kids) = refl
view_all-put (text_node units) (tree (misc_node held) kids) = refl
view_all-put (element x attrs ending nodes mark) kids = refl
view_all-put (cdata_node held) kids = refl
view_all-put (misc_node held) kids = refl

mutual
  pub view_before-merged : {M : Type 0} (t : Tree M) (h : Hedge) → view_before (merged t) h ≡ view_before t h
  view_before-merged (element x attrs ending kids mark) h = ap (λ k. elem x attrs k h) (view_all-merged kids)
  view_before-merged (text_node units) h = refl
  view_before-merged (cdata_node held) h = refl
  view_before-merged (misc_node held) h = refl

  view_all-merged : {M : Type 0} (kids : Forest M) → view_all (merged_all kids) ≡ view_all kids
  view_all-merged no_trees = refl
  view_all-merged (tree t kids) =
      view_all-put (merged t) (merged_all kids) ∙ view_before-merged t (view_all (merged_all kids)) ∙ ap (view_before t) (view_all-merged kids)

depth_of_all-put : {M : Type 0} (t : Tree M) (kids : Forest M) → depth_of_all (put t kids) ≡ max (depth_of t) (depth_of_all kids)
depth_of_all-put (text_node units) no_trees = refl
depth_of_all-put (text_node units) (tree (text_node more) kids) = omega arith
depth_of_all-put (text_node units) (tree (element x attrs ending nodes mark) kids) = refl
depth_of_all-put (text_node units) (tree (cdata_node held) kids) = refl
depth_of_all-put (text_node units) (tree (misc_node held) kids) = refl
depth_of_all-put (element x attrs ending nodes mark) kids = refl
depth_of_all-put (cdata_node held) kids = refl
depth_of_all-put (misc_node held) kids = refl

mutual
  pub depth_of-merged : {M : Type 0} (t : Tree M) → depth_of (merged t) ≡ depth_of t
  depth_of-merged (element x attrs ending kids mark) = ap (λ d. suc d) (depth_of_all-merged kids)
  depth_of-merged (text_node units) = refl
  depth_of-merged (cdata_node held) = refl
  depth_of-merged (misc_node held) = refl

  depth_of_all-merged : {M : Type 0} (kids : Forest M) → depth_of_all (merged_all kids) ≡ depth_of_all kids
  depth_of_all-merged no_trees = refl
  depth_of_all-merged (tree t kids) = rw (depth_of_all-put (merged t) (merged_all kids), depth_of-merged t, depth_of_all-merged kids) refl

front_units-put : {M : Type 0} (t : Tree M) (kids : Forest M) → front_units (put t kids) ≡ front_units (tree t kids)
front_units-put (text_node units) no_trees = refl
front_units-put (text_node units) (tree (text_node more) kids) = append_assoc units more (front_units kids)
front_units-put (text_node units) (tree (element x attrs ending nodes mark) kids) = refl
front_units-put (text_node units) (tree (cdata_node held) kids) = refl
front_units-put (text_node units) (tree (misc_node held) kids) = refl
front_units-put (element x attrs ending nodes mark) kids = refl
front_units-put (cdata_node held) kids = refl
front_units-put (misc_node held) kids = refl

front_units-first : {M : Type 0} (t : Tree M) (kids others : Forest M) → front_units kids ≡ front_units others → front_units (tree (merged t) kids) ≡ front_units (tree t others)
front_units-first (element x attrs ending nodes mark) kids others same = refl
front_units-first (text_node units) kids others same = ap (λ more. units ++ more) same
front_units-first (cdata_node held) kids others same = refl
front_units-first (misc_node held) kids others same = refl

pub front_units-merged : {M : Type 0} (kids : Forest M) → front_units (merged_all kids) ≡ front_units kids
front_units-merged no_trees = refl
front_units-merged (tree t kids) = front_units-put (merged t) (merged_all kids) ∙ front_units-first t (merged_all kids) kids (front_units-merged kids)
