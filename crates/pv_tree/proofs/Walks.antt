-- A walk over lists, step by step.
use Rattle.std.proofs.Common.{◌≡◌, ℕ, ◌+◌, suc, List, [], ◌∷◌, ◌++◌, map, refl, ap, add-one, append-nil, append_assoc, arith}
use Rattle.std.proofs.lemmas.List.{map-append}
use Rattle.pv_tree.specs.Plain.{Tree, element, text_node, cdata_node, misc_node, Forest, no_trees, tree, nodes_in_all, Ending, PlainDoc}
use Rattle.pv_tree.specs.Lists.{an_element, the_document, lists_at, lists_from, lists_of}
use Rattle.pv_tree.specs.MarkedLists.{marked_at, marked_from, marked_of, list_alone}
use Rattle.pv_tree.specs.PlainForms.{plain, forest}
use Rattle.pv_tree.specs.Walks.{left_above, left_among, left_of, nodes_above, nodes_at, place_before, places_above}
use Rattle.pv_tree.specs.declared.nodes.Mark.{Mark}
use Rattle.pv_tree.specs.declared.nodes.Node.{Node}
use Rattle.pv_tree.specs.declared.walk.Siblings.{Siblings}

-- without their marks they are the lists
mutual
  unmarked_at : {M : Type 0} (path : List ℕ) (t : Tree M) → map list_alone (marked_at path t) ≡ lists_at path t
  unmarked_at path (element x attrs e kids mark) = ap (λ ls. record { path = path; owner = an_element x; kids = kids } ∷ ls) (unmarked_from path 0 kids)
  unmarked_at path (text_node units) = refl
  unmarked_at path (cdata_node bytes) = refl
  unmarked_at path (misc_node bytes) = refl

  unmarked_from : {M : Type 0} (path : List ℕ) (i : ℕ) (kids : Forest M) → map list_alone (marked_from path i kids) ≡ lists_from path i kids
  unmarked_from path i no_trees = refl
  unmarked_from path i (tree t rest) = rw (map-append list_alone (marked_at (path ++ i ∷ []) t) (marked_from path (suc i) rest), unmarked_at (path ++ i ∷ []) t, unmarked_from path (suc i) rest) refl

pub unmarked_of : {M : Type 0} (doc : PlainDoc M) → map list_alone (marked_of doc) ≡ lists_of doc
unmarked_of doc = ap (λ ls. record { path = []; owner = the_document; kids = tree doc.root no_trees } ∷ ls) (unmarked_at (0 ∷ []) doc.root)

-- the nodes that are left at the levels above, and these levels
abbrev pub levels_above : List Siblings → ℕ
levels_above [] = 0
levels_above (nodes ∷ above) = suc (nodes_in_all (forest nodes.nodes.now)) + levels_above above

-- one more level
left_above-more : (path : List ℕ) (above : List Siblings) (nodes : Siblings) → left_above path (above ++ nodes ∷ []) ≡ left_among (path ++ places_above above) nodes ++ left_above path above
left_above-more path [] nodes = rw (append-nil, append-nil) refl
left_above-more path (outer ∷ above) nodes =
    rw (left_above-more (path ++ place_before outer ∷ []) above nodes, append_assoc path (place_before outer ∷ []) (places_above above), append_assoc) refl

pub nodes_above-more : (above : List Siblings) (nodes : Siblings) → nodes_above (above ++ nodes ∷ []) ≡ nodes_above above + nodes_at nodes
nodes_above-more [] nodes = omega arith
nodes_above-more (outer ∷ above) nodes = omega (arith, nodes_above-more above nodes)

pub levels_above-more : (above : List Siblings) (nodes : Siblings) → levels_above (above ++ nodes ∷ []) ≡ levels_above above + suc (nodes_in_all (forest nodes.nodes.now))
levels_above-more [] nodes = omega arith
levels_above-more (outer ∷ above) nodes = omega (arith, levels_above-more above nodes)

-- after the last node of a level the walk goes on at the level above
pub left_up : (above : List Siblings) (here nodes : Siblings) → here.nodes.now ≡ [] → left_of (above ++ nodes ∷ []) here ≡ left_of above nodes
left_up above here nodes e = rw (e, left_above-more [] above nodes) refl

pub left_none : (here : Siblings) → here.nodes.now ≡ [] → left_of [] here ≡ []
left_none here e = rw e refl

-- a node that is no element is passed by
pub left_by : (above : List Siblings) (here after : Siblings) (node : Node) →
    here.nodes.now ≡ node ∷ after.nodes.now → after.next ≡ here.next + 1 → ((path : List ℕ) →
    marked_at path (plain node) ≡ []) → left_of above here ≡ left_of above after
left_by above here after node e next none = rw (e, next, none (places_above above ++ here.next ∷ []), add-one) refl

-- the list of an element comes next, and then those of its kids
pub left_below : (above : List Siblings) (here after below : Siblings) (node : Node) (x attrs : List ℕ) (e : Ending) (m : Mark) → here.nodes.now ≡ node ∷ after.nodes.now → after.next ≡ here.next + 1 →
    plain node ≡ element x attrs e (forest below.nodes.now) m → below.next ≡ 0 →
    left_of above here ≡ record { list = record { path = places_above (above ++ after ∷ []); owner = an_element x; kids = forest below.nodes.now }; mark = m } ∷ left_of (above ++ after ∷ []) below
left_below above here after below node x attrs e m split next is begins =
    let place : place_before after ≡ here.next = omega (arith, next) in
    rw (split, is, begins, left_above-more [] above after, map-append place_before above (after ∷ []), place, next, add-one, append_assoc) refl
