-- The leaves of a document after an edit of tags.
use Rattle.std.proofs.Common.{◌≡◌, ◌∙◌, ap, sym, refl, ℕ, ◌+◌, ◌≤◌, List, [], ◌∷◌, ◌++◌, take, drop, None, append_assoc, subst}
use Rattle.std.specs.List.{between}
use Rattle.std.proofs.lemmas.List.{append-nil}
use Rattle.std.proofs.lemmas.List.Edits.{split_between}
use Rattle.pv_tree.specs.Plain.{Ending, Tree, element, Forest, forest_of, trees_of, PlainDoc}
use Rattle.pv_edit.specs.Changes.{Change, in_place_of, all_kids, list_after, owner_after, change_kid, change_below, root_after}
use Rattle.pv_edit.specs.Effects.{change_of, parent_of, kid_place}
use Rattle.pv_edit.specs.Leaves.{leaves_in, leaves_in_all, IsOfTags}
use Rattle.pv_edit.specs.Reasons.{kids_at, reason_of, edit_outcome, gives}
use Rattle.pv_edit.specs.declared.edits.Edit.{Edit}
use Rattle.pv_edit.specs.declared.edits.Edit.TheVariants.{Wrap, Insert, Unwrap, Rename, Split, Join, SetText, AddText, DelText}
use Rattle.pv_edit.proofs.CutParts.{between-kid, between-none}
use Rattle.pv_edit.proofs.InverseLeads.{given-reason, given-doc}
use Rattle.pv_edit.proofs.Levels.{forest-trees}
use Rattle.pv_edit.proofs.MadeChanges.{wrap-made, insert-made, unwrap-made, rename-made}
use Rattle.pv_edit.proofs.PassedEdits.{element-at, unwrap-passes, rename-passes}
use Rattle.pv_edit.proofs.NodePlaces.{KidAt, first, later, NodeAt, here, down}
use Rattle.pv_edit.proofs.DocumentAsElement.{whole, Made, after-whole}

kid-leaves : {M : Type 0} {i : ℕ} {kids : Forest M} {k : Tree M} (f : Tree M → Tree M) → KidAt i kids k → leaves_in (f k) ≡ leaves_in k → leaves_in_all (change_kid f i kids) ≡ leaves_in_all kids
kid-leaves f (first {rest = rest}) h = ap (λ l. l ++ leaves_in_all rest) h
kid-leaves f (later {t = t} q) h = ap (λ l. leaves_in t ++ l) (kid-leaves f q h)

below-leaves : {M : Type 0} {path : List ℕ} {t u : Tree M} (f : Tree M → Tree M) → NodeAt path t u → leaves_in (f u) ≡ leaves_in u → leaves_in (change_below path f t) ≡ leaves_in t
below-leaves f here h = h
below-leaves f (down {path = path} k n) h = kid-leaves (change_below path f) k (below-leaves f n h)

leaves-append : {M : Type 0} (xs ys : List (Tree M)) → leaves_in_all (forest_of (xs ++ ys)) ≡ leaves_in_all (forest_of xs) ++ leaves_in_all (forest_of ys)
leaves-append [] ys = refl
leaves-append (x ∷ xs) ys = ap (λ l. leaves_in x ++ l) (leaves-append xs ys) ∙ sym (append_assoc (leaves_in x) (leaves_in_all (forest_of xs)) (leaves_in_all (forest_of ys)))

three-leaves : {M : Type 0} (front mid back : List (Tree M)) →
    leaves_in_all (forest_of (front ++ (mid ++ back))) ≡ leaves_in_all (forest_of front)
    ++ (leaves_in_all (forest_of mid) ++ leaves_in_all (forest_of back))
three-leaves front mid back = leaves-append front (mid ++ back) ∙ ap (λ l. leaves_in_all (forest_of front) ++ l) (leaves-append mid back)

list-leaves : {M : Type 0} (c : Change M) (ts : List (Tree M)) → c.from ≤ c.to →
    leaves_in_all (forest_of (in_place_of c.filling (between c.from c.to ts))) ≡ leaves_in_all
    (forest_of (between c.from c.to ts)) → leaves_in_all (forest_of (list_after c ts))
    ≡ leaves_in_all (forest_of ts)
list-leaves c ts h e =
    three-leaves (take c.from ts) (in_place_of c.filling (between c.from c.to ts)) (drop c.to ts)
    ∙ ap (λ l. leaves_in_all (forest_of (take c.from ts)) ++ (l ++ leaves_in_all (forest_of (drop c.to ts)))) e
    ∙ sym (three-leaves (take c.from ts) (between c.from c.to ts) (drop c.to ts)) ∙ ap (λ l. leaves_in_all (forest_of l)) (sym (split_between ts c.from c.to h))

same-root : {M : Type 0} (m : M) (t u : Tree M) → leaves_in (whole m t) ≡ leaves_in (whole m u) → leaves_in t ≡ leaves_in u
same-root m t u h = sym (append-nil (leaves_in t)) ∙ h ∙ append-nil (leaves_in u)

root-leaves : {M : Type 0} (m : M) (path : List ℕ) (c : Change M) (root : Tree M) (ts : List (Tree M)) → Made m path c root ts
    → leaves_in_all (forest_of (in_place_of c.filling (between c.from c.to ts))) ≡ leaves_in_all (forest_of (between c.from c.to ts)) → leaves_in (root_after path c root) ≡ leaves_in root
root-leaves m path c root ts d e =
    let o = d.owner in
    let l : leaves_in_all (forest_of (list_after c (trees_of o.kids))) ≡ leaves_in_all o.kids =
    ap (λ k. leaves_in_all (forest_of (list_after c k))) o.are ∙ list-leaves c ts d.order e ∙ ap (λ k. leaves_in_all (forest_of k)) (sym o.are) ∙ ap leaves_in_all (forest-trees o.kids) in
    same-root m (root_after path c root) root (ap leaves_in (after-whole path c root ts d) ∙ below-leaves (owner_after c) o.node l)

kids-leaves : {M : Type 0} (old : List (Tree M)) (x attrs : List ℕ) (e : Ending) (kids : Forest M)
    (m : M) → old ≡ element x attrs e kids m ∷ [] → leaves_in_all (forest_of (all_kids old))
    ≡ leaves_in_all (forest_of old)
kids-leaves old x attrs e kids m o = rw o (ap leaves_in_all (ap forest_of (append-nil (trees_of kids)) ∙ forest-trees kids) ∙ sym (append-nil (leaves_in_all kids)))

edit-leaves : {M : Type 0} (blank : M) (root : Tree M) (edit : Edit) → IsOfTags edit →
    reason_of blank root edit ≡ None → leaves_in (root_after (change_of blank root edit).list
    (change_of blank root edit) root) ≡ leaves_in root
edit-leaves blank root (Wrap path from to name) t h = root-leaves blank path _ root _ (wrap-made blank blank root path from to name h) (append-nil _)
edit-leaves blank root (Insert path at name) t h =
    root-leaves blank path _ root _ (insert-made blank blank root path at name h) (ap (λ l. leaves_in_all (forest_of l)) (sym (between-none (kids_at path root) at)))
edit-leaves blank root (Unwrap path) t h =
    let e = element-at path root (unwrap-passes blank root path h).elem in
    let ts = kids_at (parent_of path) root in
    root-leaves blank (parent_of path) _ root _ (unwrap-made blank blank root path h)
    (kids-leaves (between (kid_place path) (kid_place path + 1) ts) e.name e.attrs e.ending e.kids e.mark (between-kid ts (kid_place path) _ e.kid))
edit-leaves blank root (Rename path name) t h =
    let e = element-at path root (rename-passes blank root path name h).elem in
    let ts = kids_at (parent_of path) root in
    root-leaves blank (parent_of path) _ root _ (rename-made blank blank root path name h) (rw (between-kid ts (kid_place path) _ e.kid) refl)
edit-leaves blank root (Split path at) t h = absurd t
edit-leaves blank root (Join path) t h = absurd t
edit-leaves blank root (SetText path text) t h = absurd t
edit-leaves blank root (AddText path at text) t h = absurd t
edit-leaves blank root (DelText path) t h = absurd t

pub keeps-leaves : {M : Type 0} (blank : M) (doc made : PlainDoc M) (edit : Edit) → IsOfTags edit → edit_outcome blank doc edit ≡ gives made → leaves_in made.root ≡ leaves_in doc.root
keeps-leaves blank doc made edit t h =
    subst (λ (d : PlainDoc _). leaves_in d.root ≡ leaves_in doc.root)
    (given-doc (reason_of blank doc.root edit) _ made h) (edit-leaves blank doc.root edit t
    (given-reason (reason_of blank doc.root edit) _ made h))
