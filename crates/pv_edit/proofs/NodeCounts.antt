-- How many nodes a document has after an edit.
use Rattle.std.proofs.Common.{◌≡◌, ◌∙◌, ap, ℕ, ◌+◌, true, List, [], ◌∷◌, ◌++◌, map, None, arith, subst}
use Rattle.std.specs.List.{between}
use Rattle.std.proofs.lemmas.List.{append-nil}
use Rattle.pv_tree.specs.Plain.{Ending, Tree, element, Forest, forest_of, trees_of, is_element, nodes_in, nodes_in_all, PlainDoc}
use Rattle.pv_edit.specs.Changes.{all_kids, with_name, root_after}
use Rattle.pv_edit.specs.Counts.{nodes_made, nodes_taken}
use Rattle.pv_edit.specs.Effects.{change_of, parent_of, kid_place, next_of}
use Rattle.pv_edit.specs.Reasons.{edit_outcome, gives, kids_at, reason_of}
use Rattle.pv_edit.specs.declared.edits.Edit.{Edit}
use Rattle.pv_edit.specs.declared.edits.Edit.TheVariants.{Wrap, Insert, Unwrap, Rename, Split, Join, SetText, AddText, DelText}
use Rattle.pv_edit.proofs.CutParts.{between-kid, between-kids, between-none}
use Rattle.pv_edit.proofs.InverseLeads.{given-reason, given-doc}
use Rattle.pv_edit.proofs.Levels.{forest-trees}
use Rattle.pv_edit.proofs.MadeChanges.{wrap-made, insert-made, unwrap-made, rename-made, split-made, join-made, set-made, add-made, del-made}
use Rattle.pv_edit.proofs.PassedEdits.{text-at, element-at, next-kid, unwrap-passes, rename-passes, split-passes, join-passes, set-passes, del-passes}
use Rattle.pv_edit.proofs.Sizes.{nodes-after}

-- of a list of which this is all
list-count : {M : Type 0} (old new : List (Tree M)) → old ≡ new → nodes_in_all (forest_of old) ≡ nodes_in_all (forest_of new)
list-count old new e = ap (λ l. nodes_in_all (forest_of l)) e

-- an element and its kids
inner-count : {M : Type 0} (old : List (Tree M)) (x attrs : List ℕ) (e : Ending) (kids : Forest M) (m : M) → old ≡ element x attrs e kids m ∷ []
    → nodes_in_all (forest_of old) ≡ nodes_in_all (forest_of (all_kids old)) + 1
inner-count old x attrs e kids m o =
    let k : nodes_in_all (forest_of (trees_of kids ++ [])) ≡ nodes_in_all kids = ap nodes_in_all (ap forest_of (append-nil (trees_of kids)) ∙ forest-trees kids) in
    rw o (omega (arith, k))

named-count : {M : Type 0} (name : List ℕ) (old : List (Tree M)) (x attrs : List ℕ) (e : Ending) (kids : Forest M) (m : M) → old ≡ element x attrs e kids m ∷ []
    → nodes_in_all (forest_of (map (with_name name) old)) ≡ nodes_in_all (forest_of old)
named-count name old x attrs e kids m o = rw o (omega arith)

edit-count : {M : Type 0} (blank : M) (root : Tree M) (edit : Edit) → is_element root ≡ true → reason_of blank root edit ≡ None
    → nodes_in (root_after (change_of blank root edit).list (change_of blank root edit) root) + nodes_taken edit ≡ nodes_in root + nodes_made edit
edit-count blank root (Wrap path from to name) r h =
    let n = nodes-after path (change_of blank root (Wrap path from to name)) root (kids_at path root) (wrap-made blank blank root path from to name h) in
    omega (arith, n)
edit-count blank root (Insert path at name) r h =
    let n = nodes-after path (change_of blank root (Insert path at name)) root (kids_at path root) (insert-made blank blank root path at name h) in
    omega (arith, n, list-count _ _ (between-none (kids_at path root) at))
edit-count blank root (Unwrap path) r h =
    let ts = kids_at (parent_of path) root in
    let e = element-at path root (unwrap-passes blank root path h).elem in
    let n = nodes-after (parent_of path) (change_of blank root (Unwrap path)) root ts (unwrap-made blank blank root path h) in
    let k = inner-count (between (kid_place path) (kid_place path + 1) ts) e.name e.attrs e.ending e.kids e.mark (between-kid ts (kid_place path) _ e.kid) in
    omega (arith, n, k)
edit-count blank root (Rename path name) r h =
    let ts = kids_at (parent_of path) root in
    let e = element-at path root (rename-passes blank root path name h).elem in
    let n = nodes-after (parent_of path) (change_of blank root (Rename path name)) root ts (rename-made blank blank root path name h) in
    let k = named-count name (between (kid_place path) (kid_place path + 1) ts) e.name e.attrs e.ending e.kids e.mark (between-kid ts (kid_place path) _ e.kid) in
    omega (arith, n, k)
edit-count blank root (Split path at) r h =
    let ts = kids_at (parent_of path) root in
    let e = text-at path root (split-passes blank root path at h).text in
    let n = nodes-after (parent_of path) (change_of blank root (Split path at)) root ts (split-made blank blank root path at r h) in
    omega (arith, n, list-count _ _ (between-kid ts (kid_place path) _ e.kid))
edit-count blank root (Join path) r h =
    let ts = kids_at (parent_of path) root in
    let p = join-passes blank root path h in
    let e = text-at path root p.text in
    let g = text-at (next_of path) root p.next in
    let n = nodes-after (parent_of path) (change_of blank root (Join path)) root ts (join-made blank blank root path r h) in
    omega (arith, n, list-count _ _ (between-kids ts (kid_place path) _ _ e.kid (next-kid path root g)))
edit-count blank root (SetText path text) r h =
    let ts = kids_at (parent_of path) root in
    let e = text-at path root (set-passes blank root path text h).text in
    let n = nodes-after (parent_of path) (change_of blank root (SetText path text)) root ts (set-made blank blank root path text r h) in
    omega (arith, n, list-count _ _ (between-kid ts (kid_place path) _ e.kid))
edit-count blank root (AddText path at text) r h =
    let n = nodes-after path (change_of blank root (AddText path at text)) root (kids_at path root) (add-made blank blank root path at text h) in
    omega (arith, n, list-count _ _ (between-none (kids_at path root) at))
edit-count blank root (DelText path) r h =
    let ts = kids_at (parent_of path) root in
    let e = text-at path root (del-passes blank root path h).text in
    let n = nodes-after (parent_of path) (change_of blank root (DelText path)) root ts (del-made blank blank root path r h) in
    omega (arith, n, list-count _ _ (between-kid ts (kid_place path) _ e.kid))

pub counted : {M : Type 0} (blank : M) (doc made : PlainDoc M) (edit : Edit) → is_element doc.root ≡ true → edit_outcome blank doc edit ≡ gives made
    → nodes_in made.root + nodes_taken edit ≡ nodes_in doc.root + nodes_made edit
counted {M = M} blank doc made edit r h =
    let e = given-doc (reason_of blank doc.root edit) _ made h in
    subst (λ (d : PlainDoc M). nodes_in d.root + nodes_taken edit ≡ nodes_in doc.root + nodes_made edit) e
    (edit-count blank doc.root edit r (given-reason (reason_of blank doc.root edit) _ made h))
