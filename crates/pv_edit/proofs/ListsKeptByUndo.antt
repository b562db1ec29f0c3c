-- The lists that the undoing of an edit leaves as they are.
use Rattle.std.proofs.Common.{◌≡◌, ◌∙◌, ap, sym, refl, ℕ, zero, suc, ◌+◌, ◌≤◌, true, false, List, [], ◌∷◌, ◌++◌, length, take, drop, map, Option, Some, None, slice_get, arith, subst}
use Rattle.std.specs.Prelude.{IsSomeAnd}
use Rattle.std.specs.List.{between}
use Rattle.std.proofs.lemmas.List.{length-map}
use Rattle.std.proofs.lemmas.List.Edits.{length-between}
use Rattle.std.proofs.lemmas.Option.{slice_get_within}
use Rattle.pv_tree.specs.Plain.{Tree, element, text_node, cdata_node, misc_node, is_element, trees_of, PlainDoc}
use Rattle.pv_tree.specs.Places.{list_at, node_below}
use Rattle.pv_edit.specs.ChangedLists.{changed_lists, undoes}
use Rattle.pv_edit.specs.Changes.{Change, with_name, in_place_of}
use Rattle.pv_edit.specs.Effects.{parent_of, kid_place, next_of, units_at}
use Rattle.pv_edit.specs.FittingChanges.{CanChange, TakesChange}
use Rattle.pv_edit.specs.Inverses.{LeadsBack, change_back, inverse_of, put_back, end_of, doc_back}
use Rattle.pv_edit.specs.Origins.{IsKeptList, IsNone}
use Rattle.pv_edit.specs.Reasons.{is_top, reason_of}
use Rattle.pv_edit.specs.declared.edits.Edit.{Edit}
use Rattle.pv_edit.specs.declared.edits.Edit.TheVariants.{Wrap, Insert, Unwrap, Rename, Split, Join, SetText, AddText, DelText}
use Rattle.pv_edit.specs.declared.inverses.Inverse.{Inverse}
use Rattle.pv_edit.specs.declared.inverses.Inverse.TheVariants.{TakeOut, PutBack, Name, Merge, Divide, Text, Discard, Restore}
use Rattle.pv_edit.proofs.KeptLists.{first-path, text-alone, text-either, not-top}
use Rattle.pv_edit.proofs.InverseLeads.{given-reason}
use Rattle.pv_edit.proofs.ListPlaces.{top, inside}
use Rattle.pv_edit.proofs.PassedEdits.{element-at, unwrap-passes, rename-passes}
use Rattle.pv_edit.proofs.Paths.{parent-kid, path-parts}
use Rattle.pv_edit.proofs.RevertedDocuments.{Backs, backs}
use Rattle.pv_edit.proofs.NodePlaces.{node_at}
use Rattle.pv_edit.proofs.StayingLists.{HaveNoKids, Brings, get-one}
use Rattle.pv_edit.proofs.UnchangedLists.{change-keeps}
use Rattle.pv_edit.proofs.DocumentAsElement.{owner-of, Made}

-- a change that can be made
inside-made : {M : Type 0} (m : M) (path : List ℕ) (c : Change M) (root : Tree M)
    (o : Option (Tree M)) → node_below path root ≡ o → IsSomeAnd o (TakesChange c) →
    (ts : List (Tree M)) × Made m (zero ∷ path) c root ts
inside-made m path c root None n h = absurd h
inside-made m path c root (Some (element x attrs e kids k)) n h = (
  trees_of kids,
  record {
    owner = owner-of m
        (inside (node_at path root (element x attrs e kids k) n));
    order = h.suits.order;
    within =
        h.suits.within;
    fits = h.suits.fits;
    one = λ t. absurd cc;
    unshort = λ t. absurd cc;
  },
)
inside-made m path c root (Some (text_node units)) n h = let e = h.elem in absurd cc
inside-made m path c root (Some (cdata_node bytes)) n h = let e = h.elem in absurd cc
inside-made m path c root (Some (misc_node bytes)) n h = let e = h.elem in absurd cc

pub can-made : {M : Type 0} (m : M) (list : List ℕ) (c : Change M) (root : Tree M) → CanChange list c root → (is_top list ≡ true → c.shorten ≡ false) → (ts : List (Tree M)) × Made m list c root ts
can-made m [] c root h u = (root ∷ [], record { owner = owner-of m top; order = h.suits.order; within = h.suits.within; fits = h.suits.fits; one = λ t. h.one; unshort = u })
can-made m (zero ∷ path) c root h u = inside-made m path c root (node_below path root) refl h
can-made m (suc i ∷ path) c root h u = absurd h

back-new : {M : Type 0} (blank : M) (root : Tree M) (inverse : Inverse) → HaveNoKids (change_back blank root inverse).filling
back-new blank root (TakeOut path shorten) = tt
back-new blank root (PutBack path from to name attrs e) = tt
back-new blank root (Name path name) = tt
back-new blank root (Merge path) = (refl, tt)
back-new blank root (Divide path at) = (refl, (refl, tt))
back-new blank root (Text path units) = (refl, tt)
back-new blank root (Discard path shorten) = tt
back-new blank root (Restore path units) = (refl, tt)

one-named : {M : Type 0} (name : List ℕ) (ts : List (Tree M)) (i k : ℕ) (v : Tree M) → i + 1 ≤ length ts → slice_get (map (with_name name) (between i (i + 1) ts)) k ≡ Some v → k ≡ 0
one-named name ts i k v w s =
    let n = slice_get_within (map (with_name name) (between i (i + 1) ts)) k v s in
    omega (arith, n, length-map (between i (i + 1) ts) (with_name name), length-between ts i (i + 1) w)

back-keeps : {M : Type 0} (blank : M) (doc : PlainDoc M) (inverse : Inverse) →
    CanChange (change_back blank doc.root inverse).list (change_back blank doc.root inverse)
    doc.root → (is_top (change_back blank doc.root inverse).list ≡ true →
    (change_back blank doc.root inverse).shorten ≡ false)
    → (path : List ℕ) (kids : List (Tree M)) → list_at path (doc_back blank doc inverse).root ≡ Some kids → (path ≡ (change_back blank doc.root inverse).list → ⊥)
    → ((ts : List (Tree M)) → Made doc.mark (change_back blank doc.root inverse).list
    (change_back blank doc.root inverse) doc.root ts → (k : ℕ) (v : Tree M) →
    Brings (change_back blank doc.root inverse).filling
    → path ≡ (change_back blank doc.root inverse).list ++ ((change_back blank doc.root inverse).from + k) ∷ []
    → slice_get (in_place_of (change_back blank doc.root inverse).filling
    (between (change_back blank doc.root inverse).from (change_back blank doc.root inverse).to
    ts)) k ≡ Some v → is_element v ≡ true → ⊥)
    → IsKeptList (change_back blank doc.root inverse) doc (doc_back blank doc inverse) path
back-keeps blank doc inverse can unshort path kids l other none =
    let d = can-made doc.mark (change_back blank doc.root inverse).list (change_back blank doc.root inverse) doc.root can unshort in
    change-keeps (change_back blank doc.root inverse) doc d.0 d.1 (back-new blank doc.root inverse) path kids l other (none d.0 d.1)

undo-keeps : {M : Type 0} (blank : M) (doc : PlainDoc M) (before : Tree Unit) (edit : Edit) →
    reason_of tt before edit ≡ None → (b : Backs blank doc.root (inverse_of before edit) before) →
    (path : List ℕ) (kids : List (Tree M))
    → list_at path (doc_back blank doc (inverse_of before edit)).root ≡ Some kids →
    IsNone path (changed_lists (undoes edit)) →
    IsKeptList (change_back blank doc.root (inverse_of before edit)) doc (doc_back blank doc
    (inverse_of before edit)) path
undo-keeps blank doc before (Wrap list from to name) h b path kids l none =
    back-keeps blank doc (inverse_of before (Wrap list from to name)) b.can b.unshort path kids l
    (λ p. none.0 (p ∙ parent-kid list from)) (λ ts d k v br p s e. br)
undo-keeps blank doc before (Insert list at name) h b path kids l none =
    back-keeps blank doc (inverse_of before (Insert list at name)) b.can b.unshort path kids l
    (λ p. none.0 (p ∙ parent-kid list at)) (λ ts d k v br p s e. br)
undo-keeps {M = M} blank doc before (Unwrap node) h b path kids l none =
    let q = (unwrap-passes tt before node h).elem in
    let e = element-at node before q in
    let i = PutBack (parent_of node) (kid_place node) (kid_place node + length (trees_of e.kids)) e.name e.attrs (end_of e.ending) in
    let same : inverse_of before (Unwrap node) ≡ i = ap (put_back (parent_of node) (kid_place node)) e.there in
    let c : Backs blank doc.root i before = subst (λ (j : Inverse). Backs blank doc.root j before) same b in
    subst (λ (j : Inverse). IsKeptList (change_back blank doc.root j) doc (doc_back blank doc j) path) (sym same)
    (back-keeps blank doc i c.can c.unshort path kids (subst (λ (j : Inverse). list_at path (doc_back blank doc j).root ≡ Some kids) same l) none.0
    (λ ts d k v br p s t. none.1.0 (first-path path (parent_of node) (kid_place node) k p (get-one _ v k s).0 ∙ sym (path-parts node (not-top node before q)))))
undo-keeps blank doc before (Rename node name) h b path kids l none =
    back-keeps blank doc (inverse_of before (Rename node name)) b.can b.unshort path kids l none.0
    (λ ts d k v br p s t. none.1.0 (first-path path (parent_of node) (kid_place node) k p
    (one-named _ ts (kid_place node) k v d.within s)
    ∙ sym (path-parts node (not-top node before (rename-passes tt before node name h).elem))))
undo-keeps blank doc before (Split node at) h b path kids l none =
    back-keeps blank doc (inverse_of before (Split node at)) b.can b.unshort path kids l none.0 (λ ts d k v br p s t. text-alone (units_at node doc.root ++ units_at (next_of node) doc.root) k v s t)
undo-keeps blank doc before (Join node) h b path kids l none =
    back-keeps blank doc (inverse_of before (Join node)) b.can b.unshort path kids l none.0
    (λ ts d k v br p s t. text-either (take (length (units_at node before)) (units_at node doc.root)) (drop (length (units_at node before)) (units_at node doc.root)) k v s t)
undo-keeps blank doc before (SetText node text) h b path kids l none =
    back-keeps blank doc (inverse_of before (SetText node text)) b.can b.unshort path kids l none.0 (λ ts d k v br p s t. text-alone (units_at node before) k v s t)
undo-keeps blank doc before (AddText list at text) h b path kids l none =
    back-keeps blank doc (inverse_of before (AddText list at text)) b.can b.unshort path kids l (λ p. none.0 (p ∙ parent-kid list at)) (λ ts d k v br p s t. cc)
undo-keeps blank doc before (DelText node) h b path kids l none =
    back-keeps blank doc (inverse_of before (DelText node)) b.can b.unshort path kids l none.0 (λ ts d k v br p s t. text-alone (units_at node before) k v s t)

pub undone-lists : {M : Type 0} (blank : M) (inverse : Inverse) (doc : PlainDoc M)
    (before : PlainDoc Unit) (l : LeadsBack inverse doc before) →
    (path : List ℕ) (kids : List (Tree M)) → list_at path (doc_back blank doc inverse).root ≡ Some kids
    → IsNone path (changed_lists (undoes l.edit)) → IsKeptList (change_back blank doc.root inverse) doc (doc_back blank doc inverse) path
undone-lists blank inverse doc before l path kids at none =
    let reason = given-reason (reason_of tt before.root l.edit) _ _ l.is_edited in
    let b = subst (λ (i : Inverse). Backs blank doc.root i before.root) (sym l.is_inverse) (backs blank inverse doc before l) in
    subst (λ (i : Inverse). IsKeptList (change_back blank doc.root i) doc (doc_back blank doc i) path) l.is_inverse
    (undo-keeps blank doc before.root l.edit reason b path kids (subst (λ (i : Inverse). list_at path (doc_back blank doc i).root ≡ Some kids) (sym l.is_inverse) at) none)
