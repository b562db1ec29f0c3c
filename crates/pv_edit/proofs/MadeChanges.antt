-- The change of an edit that isn't refused can be made.
use Rattle.std.proofs.Common.{◌≡◌, ◌∙◌, ap, refl, ℕ, zero, suc, ◌+◌, true, false, not, List, [], ◌∷◌, ◌++◌, length, None, arith}
use Rattle.std.proofs.lemmas.Bool.{not-false}
use Rattle.std.proofs.lemmas.List.{append-nil}
use Rattle.std.proofs.lemmas.Option.{slice_get_within}
use Rattle.pv_tree.specs.Plain.{Tree, element, text_node, cdata_node, misc_node, is_element, trees_of}
use Rattle.pv_tree.specs.Places.{kids_of}
use Rattle.pv_edit.specs.Changes.{list_after}
use Rattle.pv_edit.specs.Effects.{change_of, parent_of, kid_place}
use Rattle.pv_edit.specs.Reasons.{is_top, is_one_element, kids_at, reason_of, lacks_element}
use Rattle.pv_edit.specs.declared.edits.Edit.TheVariants.{Wrap, Insert, Unwrap, Rename, Split, Join, SetText, AddText, DelText}
use Rattle.pv_edit.proofs.ListPlaces.{listed}
use Rattle.pv_edit.proofs.TooDeepChanges.{whole_range}
use Rattle.pv_edit.proofs.DocumentAsElement.{owner-of, Made}
use Rattle.pv_edit.proofs.CutParts.{between-kid}
use Rattle.pv_edit.proofs.PassedEdits.{text-at, element-at, next-kid, text-inside, WrapPasses, wrap-passes, insert-passes, UnwrapPasses}
use Rattle.pv_edit.proofs.PassedEdits.{unwrap-passes, rename-passes, split-passes, join-passes, set-passes, add-passes, del-passes}

pub never : {A : Type 0} (l : List ℕ) → is_top l ≡ false → is_top l ≡ true → A
never l h k = absurd cc

wrap-one : {M : Type 0} (blank : M) (root : Tree M) (path : List ℕ) (from to : ℕ) (name : List ℕ) →
    WrapPasses blank root path from to name → is_top path ≡ true →
    length (list_after (change_of blank root (Wrap path from to name)) (kids_at path root)) ≡ 1
wrap-one blank root [] from to name p t = let r = whole_range from to p.top in rw (r.0, r.1) refl
wrap-one blank root (i ∷ path) from to name p t = absurd cc

pub wrap-made : {M : Type 0} (m blank : M) (root : Tree M) (path : List ℕ) (from to : ℕ)
    (name : List ℕ) → reason_of blank root (Wrap path from to name) ≡ None →
    Made m path (change_of blank root (Wrap path from to name)) root (kids_at path root)
wrap-made m blank root path from to name h =
    let p = wrap-passes blank root path from to name h in
    record { owner = owner-of m (listed path root p.list); order = p.order; within = p.within; fits = tt; one = wrap-one blank root path from to name p; unshort = λ _. refl }

pub insert-made : {M : Type 0} (m blank : M) (root : Tree M) (path : List ℕ) (at : ℕ)
    (name : List ℕ) → reason_of blank root (Insert path at name) ≡ None →
    Made m path (change_of blank root (Insert path at name)) root (kids_at path root)
insert-made m blank root path at name h =
    let p = insert-passes blank root path at name h in
    record { owner = owner-of m (listed path root p.list); order = omega arith; within = p.within; fits = tt; one = λ t. never path p.top t; unshort = λ _. refl }

one-length : {M : Type 0} (ts : List (Tree M)) → is_one_element ts ≡ true → length ts ≡ 1
one-length [] h = absurd cc
one-length (t ∷ []) h = refl
one-length (t ∷ u ∷ ts) h = absurd cc

kids-one : {M : Type 0} (t : Tree M) → not (is_one_element (kids_at (zero ∷ []) t)) ≡ false → length (kids_of t ++ []) ≡ 1
kids-one (element x attrs e kids m) h = ap length (append-nil (trees_of kids)) ∙ one-length (trees_of kids) (not-false (is_one_element (trees_of kids)) h)
kids-one (text_node units) h = absurd cc
kids-one (cdata_node bytes) h = absurd cc
kids-one (misc_node bytes) h = absurd cc

unwrap-one : {M : Type 0} (blank : M) (root : Tree M) (path : List ℕ) →
    UnwrapPasses blank root path → is_top (parent_of path) ≡ true →
    length (list_after (change_of blank root (Unwrap path)) (kids_at (parent_of path) root)) ≡ 1
unwrap-one blank root [] p t = let h = p.elem in absurd cc
unwrap-one blank root (zero ∷ []) p t = ap length (append-nil (kids_of root ++ [])) ∙ kids-one root p.one
unwrap-one blank root (suc i ∷ []) p t = let h = p.elem in absurd cc
unwrap-one blank root (i ∷ j ∷ path) p t = absurd cc

pub unwrap-made : {M : Type 0} (m blank : M) (root : Tree M) (path : List ℕ) →
    reason_of blank root (Unwrap path) ≡ None →
    Made m (parent_of path) (change_of blank root (Unwrap path)) root (kids_at (parent_of path) root)
unwrap-made m blank root path h =
    let p = unwrap-passes blank root path h in
    let e = element-at path root p.elem in
    let w = slice_get_within (kids_at (parent_of path) root) (kid_place path) _ e.kid in
    record {
      owner = owner-of m e.list;
      order = omega arith;
      within = omega arith;
      fits = ap is_one_element (between-kid (kids_at (parent_of path) root) (kid_place path) _
          e.kid);
      one = unwrap-one blank root path p;
      unshort = λ _. refl;
    }

rename-one : {M : Type 0} (blank : M) (root : Tree M) (path name : List ℕ) → lacks_element path root
    ≡ false → is_top (parent_of path) ≡ true →
    length (list_after (change_of blank root (Rename path name)) (kids_at (parent_of path) root)) ≡ 1
rename-one blank root [] name h t = absurd cc
rename-one blank root (zero ∷ []) name h t = refl
rename-one blank root (suc i ∷ []) name h t = absurd cc
rename-one blank root (i ∷ j ∷ path) name h t = absurd cc

pub rename-made : {M : Type 0} (m blank : M) (root : Tree M) (path name : List ℕ) →
    reason_of blank root (Rename path name) ≡ None →
    Made m (parent_of path) (change_of blank root (Rename path name)) root (kids_at (parent_of path) root)
rename-made m blank root path name h =
    let p = rename-passes blank root path name h in
    let e = element-at path root p.elem in
    let w = slice_get_within (kids_at (parent_of path) root) (kid_place path) _ e.kid in
    record {
      owner = owner-of m e.list;
      order = omega arith;
      within = omega arith;
      fits = ap is_one_element (between-kid (kids_at (parent_of path) root) (kid_place path) _
          e.kid);
      one = rename-one blank root path name p.elem;
      unshort = λ _. refl;
    }

pub split-made : {M : Type 0} (m blank : M) (root : Tree M) (path : List ℕ) (at : ℕ) →
    is_element root ≡ true → reason_of blank root (Split path at) ≡ None →
    Made m (parent_of path) (change_of blank root (Split path at)) root (kids_at (parent_of path) root)
split-made m blank root path at r h =
    let p = split-passes blank root path at h in
    let e = text-at path root p.text in
    let w = slice_get_within (kids_at (parent_of path) root) (kid_place path) _ e.kid in
    record { owner = owner-of m e.list; order = omega arith; within = omega arith; fits = tt; one = λ t. never (parent_of path) (text-inside path root r p.text) t; unshort = λ _. refl }

pub join-made : {M : Type 0} (m blank : M) (root : Tree M) (path : List ℕ) →
    is_element root ≡ true → reason_of blank root (Join path) ≡ None →
    Made m (parent_of path) (change_of blank root (Join path)) root (kids_at (parent_of path) root)
join-made m blank root path r h =
    let p = join-passes blank root path h in
    let e = text-at path root p.text in
    let f = text-at _ root p.next in
    let w = slice_get_within (kids_at (parent_of path) root) (kid_place path + 1) _ (next-kid path root f) in
    record { owner = owner-of m e.list; order = omega arith; within = omega arith; fits = tt; one = λ t. never (parent_of path) (text-inside path root r p.text) t; unshort = λ _. refl }

pub set-made : {M : Type 0} (m blank : M) (root : Tree M) (path text : List ℕ) →
    is_element root ≡ true → reason_of blank root (SetText path text) ≡ None →
    Made m (parent_of path) (change_of blank root (SetText path text)) root (kids_at (parent_of path) root)
set-made m blank root path text r h =
    let p = set-passes blank root path text h in
    let e = text-at path root p.text in
    let w = slice_get_within (kids_at (parent_of path) root) (kid_place path) _ e.kid in
    record { owner = owner-of m e.list; order = omega arith; within = omega arith; fits = tt; one = λ t. never (parent_of path) (text-inside path root r p.text) t; unshort = λ _. refl }

pub add-made : {M : Type 0} (m blank : M) (root : Tree M) (path : List ℕ) (at : ℕ) (text : List ℕ) →
    reason_of blank root (AddText path at text) ≡ None →
    Made m path (change_of blank root (AddText path at text)) root (kids_at path root)
add-made m blank root path at text h =
    let p = add-passes blank root path at text h in
    record { owner = owner-of m (listed path root p.list); order = omega arith; within = p.within; fits = tt; one = λ t. never path p.top t; unshort = λ _. refl }

pub del-made : {M : Type 0} (m blank : M) (root : Tree M) (path : List ℕ) → is_element root ≡ true →
    reason_of blank root (DelText path) ≡ None →
    Made m (parent_of path) (change_of blank root (DelText path)) root (kids_at (parent_of path) root)
del-made m blank root path r h =
    let p = del-passes blank root path h in
    let e = text-at path root p.text in
    let w = slice_get_within (kids_at (parent_of path) root) (kid_place path) _ e.kid in
    record { owner = owner-of m e.list; order = omega arith; within = omega arith; fits = tt; one = λ t. never (parent_of path) (text-inside path root r p.text) t; unshort = λ _. refl }
