-- Why an edit is refused, and what it gives where it isn't.
use Rattle.std.specs.Prelude.{ℕ, Bool, true, false, not, ◌&&◌, ◌||◌, ◌==◌, nat_le, nat_lt, List, []}
use Rattle.std.specs.Prelude.{◌∷◌, length, Option, Some, None}
use Rattle.pv_chars.specs.Texts.{holds_close_mark}
use Rattle.pv_tree.specs.Plain.{Tree, text_node, Forest, no_trees}
use Rattle.pv_tree.specs.Plain.{tree, forest_of, depth_of, is_element, PlainDoc}
use Rattle.pv_tree.specs.Places.{Spot, at_node, spot_at, list_at}
use Rattle.pv_tree.specs.Legal.{front_units, MAX_DEPTH}
use Rattle.pv_edit.specs.GivenNames.{is_new_name, is_new_text}
use Rattle.pv_edit.specs.Changes.{Change, list_after, root_after, doc_after}
use Rattle.pv_edit.specs.Effects.{change_of, next_of, units_at}
use Rattle.pv_edit.specs.declared.edits.Edit.{Edit}
use Rattle.pv_edit.specs.declared.edits.Edit.TheVariants.{Wrap, Insert, Unwrap, Rename, Split, Join}
use Rattle.pv_edit.specs.declared.edits.Edit.TheVariants.{SetText, AddText, DelText}
use Rattle.pv_edit.specs.declared.reasons.Reason.{Reason}
use Rattle.pv_edit.specs.declared.reasons.Reason.TheVariants.{NoNode, NotElement, NotText, Range}
use Rattle.pv_edit.specs.declared.reasons.Reason.TheVariants.{BadName, BadText, RootShape, Deep}
use Rattle.pv_edit.specs.declared.reasons.Reason.TheVariants.{CloseMark}

abbrev pub is_text : {M : Type 0} → Tree M → Bool
is_text (text_node units) = true
is_text t = false

-- a node of the tree for which the test is true; the document node is none
abbrev pub is_spot : {M : Type 0} → (Tree M → Bool) → Option (Spot M) → Bool
is_spot test (Some (at_node t)) = test t
is_spot test spot = false

abbrev pub is_given : {A : Type 0} → Option A → Bool
is_given None = false
is_given (Some x) = true

abbrev pub items_of : {A : Type 0} → Option (List A) → List A
items_of None = []
items_of (Some xs) = xs

-- the list at a path
abbrev pub kids_at : {M : Type 0} → List ℕ → Tree M → List (Tree M)
kids_at path root = items_of (list_at path root)

abbrev pub is_one_element : {M : Type 0} → List (Tree M) → Bool
is_one_element (t ∷ []) = is_element t
is_one_element ts = false

-- the path of the document node, or of the root
abbrev pub is_top : List ℕ → Bool
is_top [] = true
is_top (i ∷ path) = false

abbrev pub is_root : List ℕ → Bool
is_root (i ∷ []) = true
is_root path = false

-- the units of some run of texts side by side, joined, hold `]]>`
abbrev pub spells_close_mark : {M : Type 0} → Forest M → Bool
spells_close_mark no_trees = false
spells_close_mark (tree t rest) =
    holds_close_mark (front_units (tree t rest)) || spells_close_mark rest

-- the result would be too deep
abbrev pub goes_too_deep : {M : Type 0} → Change M → Tree M → Bool
goes_too_deep c root = nat_lt MAX_DEPTH (depth_of (root_after c.list c root))

-- in the changed list of the result a run of texts would spell `]]>`
abbrev pub makes_close_mark : {M : Type 0} → Change M → Tree M → Bool
makes_close_mark c root = spells_close_mark (forest_of (list_after c (kids_at c.list root)))

-- a test that has to be false, its reason, and the tests after it
abbrev pub unless : Bool → Reason → Option Reason → Option Reason
unless true reason later = Some reason
unless false reason later = later

-- no node stands there; no list; no element of the tree; no text
abbrev pub lacks_node : {M : Type 0} → List ℕ → Tree M → Bool
lacks_node path root = not (is_given (spot_at path root))

abbrev pub lacks_list : {M : Type 0} → List ℕ → Tree M → Bool
lacks_list path root = not (is_given (list_at path root))

abbrev pub lacks_element : {M : Type 0} → List ℕ → Tree M → Bool
lacks_element path root = not (is_spot is_element (spot_at path root))

abbrev pub lacks_text : {M : Type 0} → List ℕ → Tree M → Bool
lacks_text path root = not (is_spot is_text (spot_at path root))

-- the first reason to refuse an edit, in the order of the table
abbrev pub reason_of : {M : Type 0} → M → Tree M → Edit → Option Reason
reason_of blank root (Wrap path from to name) =
    unless (lacks_node path root) NoNode
    (unless (lacks_list path root) NotElement
    (unless (nat_lt to from || nat_lt (length (kids_at path root)) to) Range
    (unless (not (is_new_name name)) BadName
    (unless (is_top path && not ((from == 0) && (to == 1))) RootShape
    (unless (goes_too_deep (change_of blank root (Wrap path from to name)) root) Deep None)))))
reason_of blank root (Insert path at name) =
    unless (lacks_node path root) NoNode
    (unless (lacks_list path root) NotElement
    (unless (nat_lt (length (kids_at path root)) at) Range
    (unless (not (is_new_name name)) BadName
    (unless (is_top path) RootShape
    (unless (goes_too_deep (change_of blank root (Insert path at name)) root) Deep None)))))
reason_of blank root (Unwrap path) =
    unless (lacks_node path root) NoNode
    (unless (lacks_element path root) NotElement
    (unless (is_root path && not (is_one_element (kids_at path root))) RootShape
    (unless (makes_close_mark (change_of blank root (Unwrap path)) root) CloseMark None)))
reason_of blank root (Rename path name) =
    unless (lacks_node path root) NoNode
    (unless (lacks_element path root) NotElement
    (unless (not (is_new_name name)) BadName None))
reason_of blank root (Split path at) =
    unless (lacks_node path root) NoNode
    (unless (lacks_text path root) NotText
    (unless ((at == 0) || nat_le (length (units_at path root)) at) Range None))
reason_of blank root (Join path) =
    unless (lacks_node path root) NoNode
    (unless (lacks_text path root || lacks_text (next_of path) root) NotText None)
reason_of blank root (SetText path text) =
    unless (lacks_node path root) NoNode
    (unless (lacks_text path root) NotText
    (unless (not (is_new_text text)) BadText
    (unless (makes_close_mark (change_of blank root (SetText path text)) root) CloseMark None)))
reason_of blank root (AddText path at text) =
    unless (lacks_node path root) NoNode
    (unless (lacks_list path root) NotElement
    (unless (nat_lt (length (kids_at path root)) at) Range
    (unless (not (is_new_text text)) BadText
    (unless (is_top path) RootShape
    (unless (makes_close_mark (change_of blank root (AddText path at text)) root) CloseMark
    None)))))
reason_of blank root (DelText path) =
    unless (lacks_node path root) NoNode
    (unless (lacks_text path root) NotText
    (unless (makes_close_mark (change_of blank root (DelText path)) root) CloseMark None))

-- a document, or why there is none
pub data Outcome (M : Type 0) : Type 0 where
  gives : (doc : PlainDoc M) → Outcome M
  refuses : (reason : Reason) → Outcome M

abbrev pub outcome : {M : Type 0} → Option Reason → PlainDoc M → Outcome M
outcome (Some reason) doc = refuses reason
outcome None doc = gives doc

-- the document after an edit, or the first reason to refuse it
abbrev pub edit_outcome : {M : Type 0} → M → PlainDoc M → Edit → Outcome M
edit_outcome blank doc edit = outcome (reason_of blank doc.root edit)
    (doc_after (change_of blank doc.root edit) doc)
