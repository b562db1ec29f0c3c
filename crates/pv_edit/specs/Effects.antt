-- What an edit does: the change that it makes.
use Rattle.std.specs.Prelude.{ℕ, ◌+◌, false, List, [], ◌∷◌, ◌++◌, take, drop, Option, Some}
use Rattle.pv_tree.specs.Plain.{Tree, element, text_node, no_trees, short}
use Rattle.pv_tree.specs.Plain.{tagged}
use Rattle.pv_tree.specs.Places.{Spot, at_node, spot_at}
use Rattle.pv_edit.specs.GivenNames.{new_units}
use Rattle.pv_edit.specs.Changes.{Change, Filling, others, around, inner, named}
use Rattle.pv_edit.specs.declared.edits.Edit.{Edit}
use Rattle.pv_edit.specs.declared.edits.Edit.TheVariants.{Wrap, Insert, Unwrap, Rename, Split, Join}
use Rattle.pv_edit.specs.declared.edits.Edit.TheVariants.{SetText, AddText, DelText}

-- the path of the node whose kid stands at a path
abbrev pub parent_of : List ℕ → List ℕ
parent_of (i ∷ j ∷ path) = i ∷ parent_of (j ∷ path)
parent_of path = []

-- which of its kids that is
abbrev pub kid_place : List ℕ → ℕ
kid_place [] = 0
kid_place (i ∷ []) = i
kid_place (i ∷ j ∷ path) = kid_place (j ∷ path)

-- the path of the next sibling
abbrev pub next_of : List ℕ → List ℕ
next_of path = parent_of path ++ (kid_place path + 1) ∷ []

-- the units of a text
abbrev pub node_units : {M : Type 0} → Tree M → List (List ℕ)
node_units (text_node units) = units
node_units t = []

abbrev pub units_on : {M : Type 0} → Option (Spot M) → List (List ℕ)
units_on (Some (at_node t)) = node_units t
units_on spot = []

-- the units of the text at a path
abbrev pub units_at : {M : Type 0} → List ℕ → Tree M → List (List ℕ)
units_at path root = units_on (spot_at path root)

-- a text, cut before unit number at
abbrev pub two_texts : {M : Type 0} → ℕ → List (List ℕ) → List (Tree M)
two_texts at units = text_node (take at units) ∷ text_node (drop at units) ∷ []

abbrev pub one_text : {M : Type 0} → List (List ℕ) → List (Tree M)
one_text units = text_node units ∷ []

-- something comes in place of the kids from one place up to another, in the list at a path
abbrev pub fill : {M : Type 0} → List ℕ → ℕ → ℕ → Filling M → Change M
fill list from to filling =
    record { list = list; from = from; to = to; filling = filling; shorten = false }

-- in place of the node at a path
abbrev pub fill_node : {M : Type 0} → List ℕ → Filling M → Change M
fill_node path filling = fill (parent_of path) (kid_place path) (kid_place path + 1) filling

-- in place of it and its next sibling
abbrev pub fill_two : {M : Type 0} → List ℕ → Filling M → Change M
fill_two path filling = fill (parent_of path) (kid_place path) (kid_place path + 2) filling

-- The change that an edit makes. New elements have a blank mark.
abbrev pub change_of : {M : Type 0} → M → Tree M → Edit → Change M
change_of blank root (Wrap path from to name) = fill path from to (around name [] (tagged []) blank)
change_of blank root (Insert path at name) =
    fill path at at (others (element name [] short no_trees blank ∷ []))
change_of blank root (Unwrap path) = fill_node path inner
change_of blank root (Rename path name) = fill_node path (named name)
change_of blank root (Split path at) = fill_node path (others (two_texts at (units_at path root)))
change_of blank root (Join path) =
    fill_two path (others (one_text (units_at path root ++ units_at (next_of path) root)))
change_of blank root (SetText path text) = fill_node path (others (one_text (new_units text)))
change_of blank root (AddText path at text) = fill path at at (others (one_text (new_units text)))
change_of blank root (DelText path) = fill_node path (others [])
