-- The lists that an edit and its inverse change are those that their changes change.
use Rattle.std.proofs.Common.{◌≡◌, ◌∙◌, ap, sym, refl, false, List, [], ◌∷◌, ◌++◌, None, ℕ}
use Rattle.pv_tree.specs.Plain.{Tree, PlainDoc}
use Rattle.pv_edit.specs.BroughtElements.{lists_changed}
use Rattle.pv_edit.specs.ChangedLists.{changed_lists, makes, undoes}
use Rattle.pv_edit.specs.Effects.{change_of, parent_of, kid_place}
use Rattle.pv_edit.specs.Inverses.{change_back, inverse_of, put_back}
use Rattle.pv_edit.specs.Reasons.{edit_outcome, gives, lacks_element, reason_of}
use Rattle.pv_edit.specs.declared.edits.Edit.{Edit}
use Rattle.pv_edit.specs.declared.edits.Edit.TheVariants.{Wrap, Insert, Unwrap, Rename, Split, Join, SetText, AddText, DelText}
use Rattle.pv_edit.specs.declared.inverses.Inverse.{Inverse}
use Rattle.pv_edit.proofs.KeptLists.{not-top}
use Rattle.pv_edit.proofs.InverseLeads.{given-reason}
use Rattle.pv_edit.proofs.PassedEdits.{element-at, unwrap-passes, rename-passes}
use Rattle.pv_edit.proofs.Paths.{parent-kid, path-parts}

-- an element's list, and its own
parent-first : {M : Type 0} (path : List ℕ) (root : Tree M) → lacks_element path root ≡ false → parent_of path ∷ (parent_of path ++ kid_place path ∷ []) ∷ [] ≡ parent_of path ∷ path ∷ []
parent-first path root h = ap (λ p. parent_of path ∷ p ∷ []) (sym (path-parts path (not-top path root h)))

edit-lists-at : {M : Type 0} (blank : M) (root : Tree M) (edit : Edit) → reason_of blank root edit ≡ None → lists_changed (change_of blank root edit) ≡ changed_lists (makes edit)
edit-lists-at blank root (Wrap path from to name) h = refl
edit-lists-at blank root (Insert path at name) h = refl
edit-lists-at blank root (Unwrap path) h = refl
edit-lists-at blank root (Rename path name) h = parent-first path root (rename-passes blank root path name h).elem
edit-lists-at blank root (Split path at) h = refl
edit-lists-at blank root (Join path) h = refl
edit-lists-at blank root (SetText path text) h = refl
edit-lists-at blank root (AddText path at text) h = refl
edit-lists-at blank root (DelText path) h = refl

pub edit-lists : {M : Type 0} (blank : M) (doc made : PlainDoc M) (edit : Edit) → edit_outcome blank doc edit ≡ gives made → lists_changed (change_of blank doc.root edit) ≡ changed_lists (makes edit)
edit-lists blank doc made edit h = edit-lists-at blank doc.root edit (given-reason (reason_of blank doc.root edit) _ made h)

only-parent : (path : List ℕ) (i : ℕ) → parent_of (path ++ i ∷ []) ∷ [] ≡ path ∷ []
only-parent path i = ap (λ p. p ∷ []) (parent-kid path i)

inverse-lists-at : {M N : Type 0} (blank : M) (root : Tree M) (old : N) (before : Tree N)
    (edit : Edit) → reason_of old before edit ≡ None →
    lists_changed (change_back blank root (inverse_of before edit)) ≡ changed_lists (undoes edit)
inverse-lists-at blank root old before (Wrap path from to name) h = only-parent path from
inverse-lists-at blank root old before (Insert path at name) h = only-parent path at
inverse-lists-at blank root old before (Unwrap path) h =
    let q = (unwrap-passes old before path h).elem in
    let e = element-at path before q in
    ap (λ (i : Inverse). lists_changed (change_back blank root i)) (ap (put_back (parent_of path) (kid_place path)) e.there) ∙ parent-first path before q
inverse-lists-at blank root old before (Rename path name) h = parent-first path before (rename-passes old before path name h).elem
inverse-lists-at blank root old before (Split path at) h = refl
inverse-lists-at blank root old before (Join path) h = refl
inverse-lists-at blank root old before (SetText path text) h = refl
inverse-lists-at blank root old before (AddText path at text) h = only-parent path at
inverse-lists-at blank root old before (DelText path) h = refl

pub inverse-lists : {M N : Type 0} (blank : M) (root : Tree M) (old : N) (before edited : PlainDoc N) (edit : Edit) → edit_outcome old before edit ≡ gives edited
    → lists_changed (change_back blank root (inverse_of before.root edit)) ≡ changed_lists (undoes edit)
inverse-lists blank root old before edited edit h = inverse-lists-at blank root old before.root edit (given-reason (reason_of old before.root edit) _ edited h)
