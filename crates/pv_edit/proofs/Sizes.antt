-- How many nodes a tree has after a change, and how deep it is.
use Rattle.std.proofs.Common.{◌≡◌, ◌∙◌, ap, sym, ℕ, ◌+◌, ◌<◌, ◌≤◌, List, [], ◌∷◌, ◌++◌, length, take, drop, Some, slice_get, arith}
use Rattle.std.specs.List.{between}
use Rattle.std.proofs.lemmas.List.Edits.{split_between}
use Rattle.pv_tree.specs.Plain.{Tree, element, text_node, cdata_node, misc_node, Forest, forest_of, trees_of, nodes_in, nodes_in_all, depth_of, depth_of_all}
use Rattle.std.proofs.lemmas.Option.{slice_get_within}
use Rattle.pv_tree.specs.Places.{kids_of, spot_at}
use Rattle.pv_tree.specs.Places.{at_node as at_spot}
use Rattle.pv_tree.proofs.Levels.{trees-forest}
use Rattle.pv_edit.specs.Effects.{parent_of, kid_place}
use Rattle.pv_edit.specs.Reasons.{kids_at}
use Rattle.pv_edit.proofs.ListPlaces.{has_parent}
use Rattle.pv_edit.specs.Changes.{Change, in_place_of, list_after, owner_after, change_kid, change_below, root_after}
use Rattle.pv_edit.proofs.Depths.{deeper, node-depth, splice-deeper, middle-depth}
use Rattle.pv_edit.proofs.Levels.{forest-trees}
use Rattle.pv_edit.proofs.NodePlaces.{KidAt, first, later, kid_at, NodeAt, here, down}
use Rattle.pv_edit.proofs.DocumentAsElement.{whole, Owner, owner-of, Made, after-whole}

kid-nodes : {M : Type 0} {i : ℕ} {kids : Forest M} {k : Tree M} (f : Tree M → Tree M) → KidAt i kids k → nodes_in_all (change_kid f i kids) + nodes_in k ≡ nodes_in_all kids + nodes_in (f k)
kid-nodes f (first {t = t} {rest = rest}) = omega arith
kid-nodes f (later {t = t} h) = omega (arith, kid-nodes f h)

nodes-below : {M : Type 0} {path : List ℕ} {t u : Tree M} (f : Tree M → Tree M) → NodeAt path t u → nodes_in (change_below path f t) + nodes_in u ≡ nodes_in t + nodes_in (f u)
nodes-below f (here {t = t}) = omega arith
nodes-below f (down {path = path} k n) = omega (arith, kid-nodes (change_below path f) k, nodes-below f n)

nodes-append : {M : Type 0} (xs ys : List (Tree M)) → nodes_in_all (forest_of (xs ++ ys)) ≡ nodes_in_all (forest_of xs) + nodes_in_all (forest_of ys)
nodes-append [] ys = omega arith
nodes-append (x ∷ xs) ys = omega (arith, nodes-append xs ys)

nodes-spliced : {M : Type 0} (ts new : List (Tree M)) (from to : ℕ) → from ≤ to →
    nodes_in_all (forest_of (take from ts ++ (new ++ drop to ts))) + nodes_in_all
    (forest_of (between from to ts)) ≡ nodes_in_all (forest_of ts) + nodes_in_all (forest_of new)
nodes-spliced ts new from to h =
    let whole = ap (λ l. nodes_in_all (forest_of l)) (split_between ts from to h) in
    let a = nodes-append (take from ts) (between from to ts ++ drop to ts) in
    let b = nodes-append (between from to ts) (drop to ts) in
    let c = nodes-append (take from ts) (new ++ drop to ts) in
    let d = nodes-append new (drop to ts) in
    omega (arith, whole, a, b, c, d)

-- the nodes of the root after a change
pub nodes-after : {M : Type 0} {m : M} (path : List ℕ) (c : Change M) (root : Tree M) (ts : List (Tree M)) → Made m path c root ts
    → nodes_in (root_after path c root) + nodes_in_all (forest_of (between c.from c.to ts)) ≡ nodes_in root + nodes_in_all (forest_of (in_place_of c.filling (between c.from c.to ts)))
nodes-after {m = m} path c root ts d =
    let o = d.owner in
    let w : nodes_in (whole m (root_after path c root)) ≡ nodes_in (change_below path (owner_after c) (whole m root)) = ap nodes_in (after-whole path c root ts d) in
    let b = nodes-below (owner_after c) o.node in
    let l : nodes_in_all (forest_of (list_after c (trees_of o.kids))) ≡ nodes_in_all (forest_of (list_after c ts)) = ap (λ k. nodes_in_all (forest_of (list_after c k))) o.are in
    let k : nodes_in_all o.kids ≡ nodes_in_all (forest_of ts) = ap nodes_in_all (sym (forest-trees o.kids)) ∙ ap (λ k. nodes_in_all (forest_of k)) o.are in
    let s = nodes-spliced ts (in_place_of c.filling (between c.from c.to ts)) c.from c.to d.order in
    omega (arith, w, b, l, k, s)

-- the depth of the root after a change, where what came in place is no deeper than what gave way
pub depth-after : {M : Type 0} {m : M} (path : List ℕ) (c : Change M) (root : Tree M) (ts : List (Tree M)) → Made m path c root ts
    → depth_of_all (forest_of (in_place_of c.filling (between c.from c.to ts))) ≤ depth_of_all (forest_of (between c.from c.to ts)) → depth_of (root_after path c root) ≤ depth_of root
depth-after {m = m} path c root ts d h =
    let o = d.owner in
    let w : depth_of (whole m (root_after path c root)) ≡ depth_of (change_below path (owner_after c) (whole m root)) = ap depth_of (after-whole path c root ts d) in
    let b = deeper (owner_after c) o.node in
    let n = node-depth o.node in
    let l : depth_of_all (forest_of (list_after c (trees_of o.kids))) ≡ depth_of_all (forest_of (list_after c ts)) = ap (λ k. depth_of_all (forest_of (list_after c k))) o.are in
    let k : depth_of_all o.kids ≡ depth_of_all (forest_of ts) = ap depth_of_all (sym (forest-trees o.kids)) ∙ ap (λ k. depth_of_all (forest_of k)) o.are in
    let s = splice-deeper ts (in_place_of c.filling (between c.from c.to ts)) c.from c.to d.order in
    let e = middle-depth ts c.from c.to d.order in
    omega (arith, w, b.rest, b.below, b.is, n, l, k, s.below, s.is, e, h)

list-nodes : {M : Type 0} (ts : List (Tree M)) → length ts ≤ nodes_in_all (forest_of ts)
list-nodes [] = omega arith
list-nodes (element x attrs e kids m ∷ ts) = omega (arith, list-nodes ts)
list-nodes (text_node units ∷ ts) = omega (arith, list-nodes ts)
list-nodes (cdata_node bytes ∷ ts) = omega (arith, list-nodes ts)
list-nodes (misc_node bytes ∷ ts) = omega (arith, list-nodes ts)

kids-within : {M : Type 0} (t : Tree M) → length (kids_of t) ≤ nodes_in t
kids-within (element x attrs e kids m) = let k = ap nodes_in_all (forest-trees kids) in omega (arith, list-nodes (trees_of kids), k)
kids-within (text_node units) = omega arith
kids-within (cdata_node bytes) = omega arith
kids-within (misc_node bytes) = omega arith

kid-below : {M : Type 0} {i : ℕ} {kids : Forest M} {k : Tree M} → KidAt i kids k → nodes_in k ≤ nodes_in_all kids
kid-below first = omega arith
kid-below (later h) = omega (arith, kid-below h)

kid-nodes-within : {M : Type 0} (ts : List (Tree M)) (i : ℕ) (t : Tree M) → slice_get ts i ≡ Some t → nodes_in t ≤ nodes_in_all (forest_of ts)
kid-nodes-within ts i t h = kid-below (kid_at i (forest_of ts) t (ap (λ l. slice_get l i) (trees-forest ts) ∙ h))

kid-within : {M : Type 0} (ts : List (Tree M)) (i : ℕ) (t : Tree M) → slice_get ts i ≡ Some t → (i < nodes_in_all (forest_of ts)) × (nodes_in t ≤ nodes_in_all (forest_of ts))
kid-within ts i t h = let w = slice_get_within ts i t h in (omega (arith, list-nodes ts), kid-nodes-within ts i t h)

nodes-within : {M : Type 0} {path : List ℕ} {t u : Tree M} → NodeAt path t u → nodes_in u ≤ nodes_in t
nodes-within here = omega arith
nodes-within (down k n) = let a = kid-below k in omega (arith, a, nodes-within n)

list-within : {M : Type 0} {m : M} {path : List ℕ} {root : Tree M} {ts : List (Tree M)} → Owner m path root ts → nodes_in_all (forest_of ts) ≤ nodes_in root
list-within o =
    let k : nodes_in_all o.kids ≡ nodes_in_all (forest_of _) = ap nodes_in_all (sym (forest-trees o.kids)) ∙ ap (λ k. nodes_in_all (forest_of k)) o.are in
    omega (arith, k, nodes-within o.node)

-- the numbers of the kids of an element, in its place
pub places-fit : {M : Type 0} (m : M) (path : List ℕ) (root t : Tree M) → spot_at path root ≡ Some (at_spot t) → kid_place path + length (kids_of t) ≤ nodes_in root + nodes_in root
places-fit m path root t s =
    let p = has_parent path root t s in
    let k = kid-within (kids_at (parent_of path) root) (kid_place path) t p.kid in
    omega (arith, k.0, k.1, kids-within t, list-within (owner-of m p.list))
