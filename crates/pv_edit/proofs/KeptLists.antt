-- The lists that each edit leaves as they are.
use Rattle.std.proofs.Common.{◌≡◌, ◌∙◌, ap, sym, refl, ℕ, zero, suc, ◌+◌, true, false, List, [], ◌∷◌, ◌++◌, take, drop, map, None, Some, slice_get, arith, subst}
use Rattle.pv_tree.specs.Plain.{Tree, text_node, is_element, PlainDoc}
use Rattle.pv_tree.specs.Places.{list_at}
use Rattle.pv_edit.specs.ChangedLists.{changed_lists, makes}
use Rattle.pv_edit.specs.Changes.{with_name, root_after, doc_after}
use Rattle.pv_edit.specs.Effects.{change_of, parent_of, kid_place, next_of, units_at}
use Rattle.pv_edit.specs.GivenNames.{new_units}
use Rattle.pv_edit.specs.Origins.{IsKeptList, IsNone}
use Rattle.pv_edit.specs.Reasons.{is_top, kids_at, lacks_element, reason_of, edit_outcome, gives}
use Rattle.pv_edit.specs.declared.edits.Edit.{Edit}
use Rattle.pv_edit.specs.declared.edits.Edit.TheVariants.{Wrap, Insert, Unwrap, Rename, Split, Join, SetText, AddText, DelText}
use Rattle.pv_edit.proofs.CutParts.{between-kid}
use Rattle.pv_edit.proofs.InverseLeads.{given-reason, given-doc}
use Rattle.pv_edit.proofs.MadeChanges.{wrap-made, insert-made, unwrap-made, rename-made, split-made, join-made, set-made, add-made, del-made}
use Rattle.pv_edit.proofs.PassedEdits.{element-at, rename-passes}
use Rattle.pv_edit.proofs.Paths.{path-parts}
use Rattle.pv_edit.proofs.StayingLists.{get-one}
use Rattle.pv_edit.proofs.UnchangedLists.{change-keeps}

pub first-path : (path list : List ℕ) (from k : ℕ) → path ≡ list ++ (from + k) ∷ [] → k ≡ 0 → path ≡ list ++ from ∷ []
first-path path list from k p z = let e : from + k ≡ from = omega arith in p ∙ ap (λ n. list ++ n ∷ []) e

pub text-alone : {M : Type 0} (us : List (List ℕ)) (k : ℕ) (v : Tree M) → slice_get (text_node us ∷ []) k ≡ Some v → is_element v ≡ true → ⊥
text-alone us k v s e = let g = get-one (text_node us) v k s in let h = ap is_element g.1 in cc

pub text-either : {M : Type 0} (us vs : List (List ℕ)) (k : ℕ) (v : Tree M) → slice_get (text_node us ∷ text_node vs ∷ []) k ≡ Some v → is_element v ≡ true → ⊥
text-either us vs zero v s e = text-alone us zero v s e
text-either us vs (suc k) v s e = text-alone vs k v s e

pub not-top : {M : Type 0} (path : List ℕ) (root : Tree M) → lacks_element path root ≡ false → is_top path ≡ false
not-top [] root h = absurd cc
not-top (i ∷ path) root h = refl

edit-keeps : {M : Type 0} (blank : M) (doc : PlainDoc M) (edit : Edit) → is_element doc.root ≡ true → reason_of blank doc.root edit ≡ None → (path : List ℕ) (kids : List (Tree M))
    → list_at path (root_after (change_of blank doc.root edit).list (change_of blank doc.root edit)
    doc.root) ≡ Some kids → IsNone path (changed_lists (makes edit)) →
    IsKeptList (change_of blank doc.root edit) doc (doc_after (change_of blank doc.root edit) doc) path
edit-keeps blank doc (Wrap list from to name) r h path kids l none =
    change-keeps (change_of blank doc.root (Wrap list from to name)) doc (kids_at list doc.root) (wrap-made doc.mark blank doc.root list from to name h) tt path kids l none.0
    (λ k v b p s e. none.1.0 (first-path path list from k p (get-one _ v k s).0))
edit-keeps blank doc (Insert list at name) r h path kids l none =
    change-keeps (change_of blank doc.root (Insert list at name)) doc (kids_at list doc.root) (insert-made doc.mark blank doc.root list at name h) (refl, tt) path kids l none.0
    (λ k v b p s e. none.1.0 (first-path path list at k p (get-one _ v k s).0))
edit-keeps blank doc (Unwrap node) r h path kids l none =
    change-keeps (change_of blank doc.root (Unwrap node)) doc (kids_at (parent_of node) doc.root) (unwrap-made doc.mark blank doc.root node h) tt path kids l none.0 (λ k v b p s e. absurd b)
edit-keeps blank doc (Rename node name) r h path kids l none =
    let q = (rename-passes blank doc.root node name h).elem in
    let e = element-at node doc.root q in
    let old = between-kid (kids_at (parent_of node) doc.root) (kid_place node) _ e.kid in
    change-keeps (change_of blank doc.root (Rename node name)) doc (kids_at (parent_of node) doc.root) (rename-made doc.mark blank doc.root node name h) tt path kids l none.0
    (λ k v b p s t. none.1.0 (first-path path (parent_of node) (kid_place node) k p
    (get-one _ v k (ap (λ ts. slice_get (map (with_name name) ts) k) (sym old) ∙ s)).0
    ∙ sym (path-parts node (not-top node doc.root q))))
edit-keeps blank doc (Split node at) r h path kids l none =
    change-keeps (change_of blank doc.root (Split node at)) doc (kids_at (parent_of node) doc.root) (split-made doc.mark blank doc.root node at r h) (refl, (refl, tt)) path kids l none.0
    (λ k v b p s e. text-either (take at (units_at node doc.root)) (drop at (units_at node doc.root)) k v s e)
edit-keeps blank doc (Join node) r h path kids l none =
    change-keeps (change_of blank doc.root (Join node)) doc (kids_at (parent_of node) doc.root) (join-made doc.mark blank doc.root node r h) (refl, tt) path kids l none.0
    (λ k v b p s e. text-alone (units_at node doc.root ++ units_at (next_of node) doc.root) k v s e)
edit-keeps blank doc (SetText node text) r h path kids l none =
    change-keeps (change_of blank doc.root (SetText node text)) doc (kids_at (parent_of node) doc.root) (set-made doc.mark blank doc.root node text r h) (refl, tt) path kids l none.0
    (λ k v b p s e. text-alone (new_units text) k v s e)
edit-keeps blank doc (AddText list at text) r h path kids l none =
    change-keeps (change_of blank doc.root (AddText list at text)) doc (kids_at list doc.root) (add-made doc.mark blank doc.root list at text h) (refl, tt) path kids l none.0
    (λ k v b p s e. text-alone (new_units text) k v s e)
edit-keeps blank doc (DelText node) r h path kids l none =
    change-keeps (change_of blank doc.root (DelText node)) doc (kids_at (parent_of node) doc.root) (del-made doc.mark blank doc.root node r h) tt path kids l none.0 (λ k v b p s e. cc)

pub keeps-lists : {M : Type 0} (blank : M) (doc made : PlainDoc M) (edit : Edit) →
    is_element doc.root ≡ true → edit_outcome blank doc edit ≡ gives made →
    (path : List ℕ) (kids : List (Tree M)) → list_at path made.root ≡ Some kids →
    IsNone path (changed_lists (makes edit))
    → IsKeptList (change_of blank doc.root edit) doc made path
keeps-lists {M = M} blank doc made edit r h path kids l none =
    let same = given-doc (reason_of blank doc.root edit) _ made h in
    subst (λ (d : PlainDoc M). IsKeptList (change_of blank doc.root edit) doc d path) same
    (edit-keeps blank doc edit r (given-reason (reason_of blank doc.root edit) _ made h) path kids (subst (λ (d : PlainDoc M). list_at path d.root ≡ Some kids) (sym same) l) none)
