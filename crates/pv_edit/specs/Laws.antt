-- What holds of edits and their inverses.
use Rattle.std.specs.Prelude.{◌≡◌, ◌<◌, ◌+◌, ◌↔◌, ℕ, List, Some, false, IsTrue, Ok}
use Rattle.std.specs.List.{list_any}
use Rattle.pv_chars.specs.Units.{TextMeans}
use Rattle.pv_tree.specs.Plain.{Tree, PlainDoc, is_element, nodes_in}
use Rattle.pv_tree.specs.Places.{list_at}
use Rattle.pv_edit.specs.BroughtElements.{BringsBare, lists_changed}
use Rattle.pv_edit.specs.ChangedLists.{changed_lists, makes, undoes}
use Rattle.pv_edit.specs.Changes.{Change, doc_after}
use Rattle.pv_edit.specs.Counts.{nodes_made, nodes_taken}
use Rattle.pv_edit.specs.Effects.{change_of}
use Rattle.pv_edit.specs.FittingChanges.{CanChange}
use Rattle.pv_edit.specs.Origins.{IsKeptList, IsNone}
use Rattle.pv_tree.specs.Legal.{MAX_NODES}
use Rattle.pv_tree.specs.Marks.{unmarked_doc}
use Rattle.pv_edit.specs.GivenNames.{is_line_end, is_new_text, new_units}
use Rattle.pv_edit.specs.Inverses.{IsKept, LeadsBack, change_back, inverse_of, doc_back}
use Rattle.pv_edit.specs.Leaves.{IsOfTags, leaves_in}
use Rattle.pv_edit.specs.Reasons.{Outcome, edit_outcome, gives, refuses}
use Rattle.pv_edit.specs.declared.edits.Edit.{Edit}
use Rattle.pv_edit.specs.declared.inverses.Inverse.{Inverse}

-- The document that an inverse makes of an edited one is the one that it leads back to, so it leads
-- to no other.
abbrev pub LeadsToOne : Type 0 → Type 0
LeadsToOne M = (inverse : Inverse) (edited : PlainDoc M) (before : PlainDoc Unit) →
    LeadsBack inverse edited before →
    doc_back tt (unmarked_doc edited) inverse ≡ before

-- A text may be put into a document exactly where it means units, which are then its units, and
-- holds no literal CR or LF.
abbrev pub NewTextsMeanUnits : Type 0
NewTextsMeanUnits = (bytes : List ℕ) →
    IsTrue (is_new_text bytes) ↔ (TextMeans bytes (Ok (new_units bytes)) ×
    (list_any is_line_end bytes ≡ false))

-- The inverse of an edit leads from the edited document back to the one before it.
abbrev pub InversesLeadBack : Type 0 → Type 0
InversesLeadBack M = (blank : M) (doc made : PlainDoc M) (edit : Edit) → IsKept doc.root →
    edit_outcome blank doc edit ≡ gives made →
    LeadsBack (inverse_of doc.root edit) made (unmarked_doc doc)

-- What a document keeps of its tree holds after an edit.
abbrev pub EditsKeep : Type 0 → Type 0
EditsKeep M = (blank : M) (doc made : PlainDoc M) (edit : Edit) → IsKept doc.root →
    nodes_in doc.root < MAX_NODES →
    edit_outcome blank doc edit ≡ gives made → IsKept made.root

-- An edit of tags keeps every leaf of the document in its order.
abbrev pub TagsKeepLeaves : Type 0 → Type 0
TagsKeepLeaves M = (blank : M) (doc made : PlainDoc M) (edit : Edit) → IsOfTags edit →
    edit_outcome blank doc edit ≡ gives made →
    leaves_in made.root ≡ leaves_in doc.root

-- A list of the edited document that the edit doesn't change stood in the document before, with the
-- same owner and the same heads of kids.
abbrev pub OtherListsStay : Type 0 → Type 0
OtherListsStay M = (blank : M) (doc made : PlainDoc M) (edit : Edit) →
    IsTrue (is_element doc.root) → edit_outcome blank doc edit ≡ gives made →
    (path : List ℕ) (kids : List (Tree M)) → list_at path made.root ≡ Some kids →
    IsNone path (changed_lists (makes edit)) →
    IsKeptList (change_of blank doc.root edit) doc made path

-- A list that doesn't change where an edit is taken back stood in the document before.
abbrev pub OtherListsStayUndone : Type 0 → Type 0
OtherListsStayUndone M = (blank : M) (inverse : Inverse) (doc : PlainDoc M) (before : PlainDoc Unit)
    (l : LeadsBack inverse doc before) →
    (path : List ℕ) (kids : List (Tree M)) → list_at path (doc_back blank doc inverse).root
    ≡ Some kids →
    IsNone path (changed_lists (undoes l.edit)) →
    IsKeptList (change_back blank doc.root inverse) doc (doc_back blank doc inverse) path

-- A change makes one document of another: the list that it changes can be changed so, its owner's
-- tags stay, and no more than one element comes, without kids.
pub record IsMadeBy {M : Type 0} (c : Change M) (doc made : PlainDoc M) : Type 0 where
  pub can : CanChange c.list c doc.root
  pub unshort : c.shorten ≡ false
  pub bare : BringsBare c.filling
  pub is_made : doc_after c doc ≡ made

-- What an edit makes of a document is made by its change.
abbrev pub EditsAreChanges : Type 0 → Type 0
EditsAreChanges M = (blank : M) (doc made : PlainDoc M) (edit : Edit) →
    IsTrue (is_element doc.root) → edit_outcome blank doc edit ≡ gives made →
    IsMadeBy (change_of blank doc.root edit) doc made

-- The lists that an edit changes are those that its change changes.
abbrev pub EditsChangeLists : Type 0 → Type 0
EditsChangeLists M = (blank : M) (doc made : PlainDoc M) (edit : Edit) → edit_outcome blank doc edit
    ≡ gives made →
    lists_changed (change_of blank doc.root edit) ≡ changed_lists (makes edit)

-- The lists that its inverse changes are those that the change of the inverse changes, whatever the
-- root is on which that is made.
abbrev pub InversesChangeLists : Type 0 → Type 0
InversesChangeLists M = (blank : M) (root : Tree M) (before edited : PlainDoc Unit) (edit : Edit) →
    edit_outcome tt before edit ≡ gives edited →
    lists_changed (change_back blank root (inverse_of before.root edit))
    ≡ changed_lists (undoes edit)

-- A document has so many nodes more after an edit as the edit makes, and so many fewer as it takes
-- away.
abbrev pub NodesAreCounted : Type 0 → Type 0
NodesAreCounted M = (blank : M) (doc made : PlainDoc M) (edit : Edit) →
    IsTrue (is_element doc.root) → edit_outcome blank doc edit ≡ gives made →
    nodes_in made.root + nodes_taken edit ≡ nodes_in doc.root + nodes_made edit

-- the outcome without the marks of its document
abbrev pub unmarked_outcome : {M : Type 0} → Outcome M → Outcome Unit
unmarked_outcome (gives doc) = gives (unmarked_doc doc)
unmarked_outcome (refuses reason) = refuses reason

-- An edit does the same whatever the marks of the document are, and has the same inverse.
abbrev pub MarksDontCount : Type 0 → Type 0
MarksDontCount M = (blank : M) (doc : PlainDoc M) (edit : Edit) →
    (edit_outcome tt (unmarked_doc doc) edit ≡ unmarked_outcome (edit_outcome blank doc edit)) ×
    (inverse_of (unmarked_doc doc).root edit ≡ inverse_of doc.root edit)
