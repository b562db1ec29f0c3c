-- A change of one list of a document: some kids that stand side by side give way to other trees.
use Rattle.std.specs.Prelude.{ℕ, zero, suc, Bool, true, false, List, [], ◌∷◌, ◌++◌, map}
use Rattle.std.specs.List.{between, splice}
use Rattle.pv_tree.specs.Plain.{Ending, short, tagged, Tree, element, Forest, no_trees, tree}
use Rattle.pv_tree.specs.Plain.{forest_of, PlainDoc}
use Rattle.pv_tree.specs.Places.{kids_of}

-- what comes in place of some trees: other trees, an element around them, their own kids, or the
-- same under another name
pub data Filling (M : Type 0) : Type 0 where
  others : (trees : List (Tree M)) → Filling M
  around : (name attrs : List ℕ) → (ending : Ending) → (mark : M) → Filling M
  inner : Filling M
  named : (name : List ℕ) → Filling M

-- In the list at a path, the kids from one place up to but not including another give way. The
-- owner of the list may get `/>` back.
pub record Change (M : Type 0) : Type 0 where
  pub list : List ℕ
  pub from : ℕ
  pub to : ℕ
  pub filling : Filling M
  pub shorten : Bool

abbrev pub with_name : {M : Type 0} → List ℕ → Tree M → Tree M
with_name x (element y attrs ending kids mark) = element x attrs ending kids mark
with_name x t = t

-- the kids of all of these trees
abbrev pub all_kids : {M : Type 0} → List (Tree M) → List (Tree M)
all_kids [] = []
all_kids (t ∷ ts) = kids_of t ++ all_kids ts

abbrev pub in_place_of : {M : Type 0} → Filling M → List (Tree M) → List (Tree M)
in_place_of (others trees) ts = trees
in_place_of (around name attrs ending mark) ts = element name attrs ending (forest_of ts) mark ∷ []
in_place_of inner ts = all_kids ts
in_place_of (named name) ts = map (with_name name) ts

-- the list after the change
abbrev pub list_after : {M : Type 0} → Change M → List (Tree M) → List (Tree M)
list_after c ts = splice ts c.from c.to (in_place_of c.filling (between c.from c.to ts))

-- how the owner of a list ends: one that gets a kid has an end tag from then on, and one that loses
-- its last kid keeps its end
abbrev pub ending_after : {M : Type 0} → Bool → Ending → List (Tree M) → Ending
ending_after true ending ts = short
ending_after false short (t ∷ ts) = tagged []
ending_after false ending ts = ending

abbrev pub with_list : {M : Type 0} → Bool → List (Tree M) → Tree M → Tree M
with_list shorten ts (element x attrs ending kids mark) =
    element x attrs (ending_after shorten ending ts) (forest_of ts) mark
with_list shorten ts t = t

-- the owner of the list after the change
abbrev pub owner_after : {M : Type 0} → Change M → Tree M → Tree M
owner_after c t = with_list c.shorten (list_after c (kids_of t)) t

-- the trees with one of them changed
abbrev pub change_kid : {M : Type 0} → (Tree M → Tree M) → ℕ → Forest M → Forest M
change_kid f i no_trees = no_trees
change_kid f zero (tree t rest) = tree (f t) rest
change_kid f (suc i) (tree t rest) = tree t (change_kid f i rest)

-- the tree with the node at a path below it changed
abbrev pub change_below : {M : Type 0} → List ℕ → (Tree M → Tree M) → Tree M → Tree M
change_below [] f t = f t
change_below (i ∷ path) f (element x attrs ending kids mark) =
    element x attrs ending (change_kid (change_below path f) i kids) mark
change_below (i ∷ path) f t = t

abbrev pub first_tree : {M : Type 0} → Tree M → List (Tree M) → Tree M
first_tree t [] = t
first_tree t (u ∷ us) = u

-- the root after a change of the list at a path; the list of the document node holds the root alone
abbrev pub root_after : {M : Type 0} → List ℕ → Change M → Tree M → Tree M
root_after [] c root = first_tree root (list_after c (root ∷ []))
root_after (i ∷ path) c root = change_below path (owner_after c) root

-- the document after a change
abbrev pub doc_after : {M : Type 0} → Change M → PlainDoc M → PlainDoc M
doc_after c doc = record doc { root = root_after c.list c doc.root }
