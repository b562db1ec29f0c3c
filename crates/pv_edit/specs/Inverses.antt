-- What undoes an edit, and where it leads.
use Rattle.std.specs.Prelude.{◌≡◌, ◌≤◌, ℕ, ◌+◌, Bool, true, false, List, [], ◌∷◌, ◌++◌, length}
use Rattle.std.specs.Prelude.{Option, Some, IsTrue}
use Rattle.pv_tree.specs.Plain.{Ending, short, tagged, Tree, element, trees_of, is_element}
use Rattle.pv_tree.specs.Plain.{depth_of, nodes_in, PlainDoc}
use Rattle.pv_tree.specs.Places.{Spot, at_node, spot_at}
use Rattle.pv_tree.specs.Legal.{has_names, is_formed, IsLegal, has_no_close_mark, MAX_DEPTH}
use Rattle.pv_tree.specs.Legal.{MAX_NODES}
use Rattle.pv_tree.specs.Units.{HasUnits}
use Rattle.pv_tree.specs.PlainForms.{plain_end}
use Rattle.pv_tree.specs.declared.nodes.End.{End}
use Rattle.pv_tree.specs.declared.nodes.End.TheVariants as end
use Rattle.pv_edit.specs.Changes.{Change, others, around, inner, named, doc_after}
use Rattle.pv_edit.specs.Effects.{parent_of, kid_place, next_of, units_at, two_texts, one_text}
use Rattle.pv_edit.specs.Effects.{fill}
use Rattle.pv_edit.specs.Effects.{fill_node, fill_two}
use Rattle.pv_edit.specs.Reasons.{edit_outcome, gives}
use Rattle.pv_tree.specs.Marks.{unmarked_doc}
use Rattle.pv_edit.specs.declared.edits.Edit.{Edit}
use Rattle.pv_edit.specs.declared.edits.Edit.TheVariants.{Wrap, Insert, Unwrap, Rename, Split, Join}
use Rattle.pv_edit.specs.declared.edits.Edit.TheVariants.{SetText, AddText, DelText}
use Rattle.pv_edit.specs.declared.inverses.Inverse.{Inverse}
use Rattle.pv_edit.specs.declared.inverses.Inverse.TheVariants.{TakeOut, PutBack, Name, Merge}
use Rattle.pv_edit.specs.declared.inverses.Inverse.TheVariants.{Divide, Text, Discard, Restore}

abbrev pub is_short : Ending → Bool
is_short short = true
is_short (tagged gap) = false

-- whether an element ends by `/>`; the document node doesn't
abbrev pub ends_short : {M : Type 0} → Option (Spot M) → Bool
ends_short (Some (at_node (element x attrs ending kids mark))) = is_short ending
ends_short spot = false

abbrev pub name_on : {M : Type 0} → Option (Spot M) → List ℕ
name_on (Some (at_node (element x attrs ending kids mark))) = x
name_on spot = []

abbrev pub end_of : Ending → End
end_of short = end.Short
end_of (tagged gap) = end.Tagged gap

-- puts kids of the list at a path back into the element that they were taken out of
abbrev pub put_back : {M : Type 0} → List ℕ → ℕ → Option (Spot M) → Inverse
put_back list i (Some (at_node (element x attrs ending kids mark))) =
    PutBack list i (i + length (trees_of kids)) x attrs (end_of ending)
put_back list i spot = PutBack list i i [] [] end.Short

-- the inverse of an edit of this tree
abbrev pub inverse_of : {M : Type 0} → Tree M → Edit → Inverse
inverse_of root (Wrap path from to name) =
    TakeOut (path ++ from ∷ []) (ends_short (spot_at path root))
inverse_of root (Insert path at name) = TakeOut (path ++ at ∷ []) (ends_short (spot_at path root))
inverse_of root (Unwrap path) = put_back (parent_of path) (kid_place path) (spot_at path root)
inverse_of root (Rename path name) = Name path (name_on (spot_at path root))
inverse_of root (Split path at) = Merge path
inverse_of root (Join path) = Divide path (length (units_at path root))
inverse_of root (SetText path text) = Text path (units_at path root)
inverse_of root (AddText path at text) = Discard (path ++ at ∷ []) (ends_short (spot_at path root))
inverse_of root (DelText path) = Restore path (units_at path root)

-- The change that an inverse makes. A restored element has a blank mark.
abbrev pub change_back : {M : Type 0} → M → Tree M → Inverse → Change M
change_back blank root (TakeOut path shorten) = record (fill_node path inner) { shorten = shorten }
change_back blank root (PutBack path from to name attrs e) =
    fill path from to (around name attrs (plain_end e) blank)
change_back blank root (Name path name) = fill_node path (named name)
change_back blank root (Merge path) =
    fill_two path (others (one_text (units_at path root ++ units_at (next_of path) root)))
change_back blank root (Divide path at) =
    fill_node path (others (two_texts at (units_at path root)))
change_back blank root (Text path units) = fill_node path (others (one_text units))
change_back blank root (Discard path shorten) =
    record (fill_node path (others [])) { shorten = shorten }
change_back blank root (Restore path units) =
    fill (parent_of path) (kid_place path) (kid_place path) (others (one_text units))

-- the document that an inverse makes of an edited one
abbrev pub doc_back : {M : Type 0} → M → PlainDoc M → Inverse → PlainDoc M
doc_back blank doc inverse = doc_after (change_back blank doc.root inverse) doc

-- what each document keeps of its tree
pub record IsKept {M : Type 0} (root : Tree M) : Type 0 where
  pub rooted : IsTrue (is_element root)
  pub formed : IsTrue (is_formed root)
  pub shallow : depth_of root ≤ MAX_DEPTH
  pub small : nodes_in root ≤ MAX_NODES
  pub named : IsTrue (has_names root)
  pub units : HasUnits root
  pub legal : ∥ IsLegal root ∥₁
  pub no_close_mark : IsTrue (has_no_close_mark root)

-- An inverse leads from an edited document to another where some edit leads from there to the
-- edited one, and this is its inverse. Marks don't count.
pub record LeadsBack {M : Type 0} (inverse : Inverse) (edited : PlainDoc M)
    (before : PlainDoc Unit) : Type 0 where
  pub edit : Edit
  pub kept : IsKept before.root
  pub is_edited : edit_outcome tt before edit ≡ gives (unmarked_doc edited)
  pub is_inverse : inverse_of before.root edit ≡ inverse
