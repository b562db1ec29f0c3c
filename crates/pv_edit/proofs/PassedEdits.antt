-- What stands where an edit is to be made that isn't refused.
use Rattle.std.proofs.Common.{◌≡◌, ◌∙◌, ap, sym, refl, ℕ, zero, suc, ◌+◌, ◌<◌, ◌≤◌, Bool, true, false, not, ◌&&◌, List, [], ◌∷◌, length, Option, Some, None, slice_get, arith, subst, IsTrue}
use Rattle.std.specs.Prelude.{◌==◌}
use Rattle.std.proofs.lemmas.Bool.{or_parts, ltb-false, leb-false, eqb-false, not-false}
use Rattle.pv_tree.specs.Plain.{Ending, Tree, element, text_node, cdata_node, misc_node, Forest, is_element}
use Rattle.pv_tree.specs.Places.{spot_at}
use Rattle.pv_tree.specs.Places.{at_node as at_spot}
use Rattle.pv_edit.specs.Effects.{change_of, parent_of, kid_place, next_of, units_on, units_at}
use Rattle.pv_edit.specs.GivenNames.{is_new_name, is_new_text}
use Rattle.pv_edit.specs.Reasons.{is_spot, is_text, is_top, is_root, is_one_element, kids_at, lacks_list, lacks_text, lacks_element, goes_too_deep, makes_close_mark, unless, reason_of}
use Rattle.pv_edit.specs.declared.reasons.Reason.{Reason}
use Rattle.pv_edit.specs.declared.edits.Edit.{Edit}
use Rattle.pv_edit.specs.declared.edits.Edit.TheVariants.{Wrap, Insert, Unwrap, Rename, Split, Join, SetText, AddText, DelText}
use Rattle.pv_edit.proofs.Paths.{parent-kid, place-kid}
use Rattle.pv_edit.proofs.ListPlaces.{ListAt, has_parent}
use Rattle.pv_edit.proofs.ThreeParts.{inner_text, inner_element}

passes : (t : Bool) (r : Reason) (later : Option Reason) → unless t r later ≡ None → (t ≡ false) × (later ≡ None)
passes true r later h = absurd cc
passes false r later h = (refl, h)

-- a text, as a kid of its parent's list
pub record TextAt {M : Type 0} (path : List ℕ) (root : Tree M) : Type 0 where
  pub units : List (List ℕ)
  pub are : units_at path root ≡ units
  pub list : ListAt (parent_of path) root (kids_at (parent_of path) root)
  pub kid : slice_get (kids_at (parent_of path) root) (kid_place path) ≡ Some (text_node units)

text-node : {M : Type 0} (path : List ℕ) (root t : Tree M) → spot_at path root ≡ Some (at_spot t) → not (is_text t) ≡ false → TextAt path root
text-node path root (text_node units) s h = let p = has_parent path root (text_node units) s in record { units = units; are = ap units_on s; list = p.list; kid = p.kid }
text-node path root (element x attrs e kids m) s h = absurd cc
text-node path root (cdata_node bytes) s h = absurd cc
text-node path root (misc_node bytes) s h = absurd cc

pub text-at : {M : Type 0} (path : List ℕ) (root : Tree M) → lacks_text path root ≡ false → TextAt path root
text-at path root h = let i = inner_text path root h in text-node path root i.node i.there (subst (λ o. not (is_spot is_text o) ≡ false) i.there h)

-- an element, as a kid of its parent's list
pub record ElementAt {M : Type 0} (path : List ℕ) (root : Tree M) : Type 0 where
  pub name : List ℕ
  pub attrs : List ℕ
  pub ending : Ending
  pub kids : Forest M
  pub mark : M
  pub there : spot_at path root ≡ Some (at_spot (element name attrs ending kids mark))
  pub list : ListAt (parent_of path) root (kids_at (parent_of path) root)
  pub kid : slice_get (kids_at (parent_of path) root) (kid_place path) ≡ Some (element name attrs ending kids mark)

element-node : {M : Type 0} (path : List ℕ) (root t : Tree M) → spot_at path root ≡ Some (at_spot t) → not (is_element t) ≡ false → ElementAt path root
element-node path root (element x attrs e kids m) s h =
    let p = has_parent path root (element x attrs e kids m) s in
    record { name = x; attrs = attrs; ending = e; kids = kids; mark = m; there = s; list = p.list; kid = p.kid }
element-node path root (text_node units) s h = absurd cc
element-node path root (cdata_node bytes) s h = absurd cc
element-node path root (misc_node bytes) s h = absurd cc

pub element-at : {M : Type 0} (path : List ℕ) (root : Tree M) → lacks_element path root ≡ false → ElementAt path root
element-at path root h = let i = inner_element path root h in element-node path root i.node i.there (subst (λ o. not (is_spot is_element o) ≡ false) i.there h)

-- the kid after a node
pub next-kid : {M : Type 0} (path : List ℕ) (root : Tree M) (t : TextAt (next_of path) root) → slice_get (kids_at (parent_of path) root) (kid_place path + 1) ≡ Some (text_node t.units)
next-kid path root t =
    let p = parent-kid (parent_of path) (kid_place path + 1) in
    let i = place-kid (parent_of path) (kid_place path + 1) in
    ap (λ (q : List ℕ). slice_get (kids_at q root) (kid_place path + 1)) (sym p) ∙ ap (λ (k : ℕ). slice_get (kids_at (parent_of (next_of path)) root) k) (sym i) ∙ t.kid

no-text : {M : Type 0} (t : Tree M) → is_element t ≡ true → not (is_text t) ≡ false → ⊥
no-text (element x attrs e kids m) h k = cc
no-text (text_node units) h k = cc
no-text (cdata_node bytes) h k = cc
no-text (misc_node bytes) h k = cc

-- a text doesn't stand in the list of the document node
pub text-inside : {M : Type 0} (path : List ℕ) (root : Tree M) → is_element root ≡ true → lacks_text path root ≡ false → is_top (parent_of path) ≡ false
text-inside [] root r h = absurd cc
text-inside (zero ∷ []) root r h = absurd (no-text root r h)
text-inside (suc i ∷ []) root r h = absurd cc
text-inside (i ∷ j ∷ path) root r h = refl

pub record WrapPasses {M : Type 0} (blank : M) (root : Tree M) (path : List ℕ) (from to : ℕ) (name : List ℕ) : Type 0 where
  pub list : lacks_list path root ≡ false
  pub order : from ≤ to
  pub within : to ≤ length (kids_at path root)
  pub named : IsTrue (is_new_name name)
  pub top : (is_top path && not ((from == 0) && (to == 1))) ≡ false
  pub shallow : goes_too_deep (change_of blank root (Wrap path from to name)) root ≡ false

pub wrap-passes : {M : Type 0} (blank : M) (root : Tree M) (path : List ℕ) (from to : ℕ)
    (name : List ℕ) → reason_of blank root (Wrap path from to name) ≡ None →
    WrapPasses blank root path from to name
wrap-passes blank root path from to name h =
    let a = passes _ _ _ h in
    let b = passes _ _ _ a.1 in
    let c = passes _ _ _ b.1 in
    let d = passes _ _ _ c.1 in
    let e = passes _ _ _ d.1 in
    let f = passes _ _ _ e.1 in
    let r = or_parts _ _ c.0 in
    record { list = b.0; order = ltb-false to from r.0; within = ltb-false (length (kids_at path root)) to r.1; named = not-false (is_new_name name) d.0; top = e.0; shallow = f.0 }

pub record InsertPasses {M : Type 0} (blank : M) (root : Tree M) (path : List ℕ) (at : ℕ) (name : List ℕ) : Type 0 where
  pub list : lacks_list path root ≡ false
  pub within : at ≤ length (kids_at path root)
  pub named : IsTrue (is_new_name name)
  pub top : is_top path ≡ false
  pub shallow : goes_too_deep (change_of blank root (Insert path at name)) root ≡ false

pub insert-passes : {M : Type 0} (blank : M) (root : Tree M) (path : List ℕ) (at : ℕ) (name : List ℕ) → reason_of blank root (Insert path at name) ≡ None → InsertPasses blank root path at name
insert-passes blank root path at name h =
    let a = passes _ _ _ h in
    let b = passes _ _ _ a.1 in
    let c = passes _ _ _ b.1 in
    let d = passes _ _ _ c.1 in
    let e = passes _ _ _ d.1 in
    let f = passes _ _ _ e.1 in
    record { list = b.0; within = ltb-false (length (kids_at path root)) at c.0; named = not-false (is_new_name name) d.0; top = e.0; shallow = f.0 }

pub record UnwrapPasses {M : Type 0} (blank : M) (root : Tree M) (path : List ℕ) : Type 0 where
  pub elem : lacks_element path root ≡ false
  pub one : (is_root path && not (is_one_element (kids_at path root))) ≡ false
  pub no_mark : makes_close_mark (change_of blank root (Unwrap path)) root ≡ false

pub unwrap-passes : {M : Type 0} (blank : M) (root : Tree M) (path : List ℕ) → reason_of blank root (Unwrap path) ≡ None → UnwrapPasses blank root path
unwrap-passes blank root path h =
    let a = passes _ _ _ h in
    let b = passes _ _ _ a.1 in
    let c = passes _ _ _ b.1 in
    let d = passes _ _ _ c.1 in
    record { elem = b.0; one = c.0; no_mark = d.0 }

pub record RenamePasses {M : Type 0} (root : Tree M) (path name : List ℕ) : Type 0 where
  pub elem : lacks_element path root ≡ false
  pub named : IsTrue (is_new_name name)

pub rename-passes : {M : Type 0} (blank : M) (root : Tree M) (path name : List ℕ) → reason_of blank root (Rename path name) ≡ None → RenamePasses root path name
rename-passes blank root path name h =
    let a = passes _ _ _ h in
    let b = passes _ _ _ a.1 in
    let c = passes _ _ _ b.1 in
    record { elem = b.0; named = not-false (is_new_name name) c.0 }

pub record SplitPasses {M : Type 0} (root : Tree M) (path : List ℕ) (at : ℕ) : Type 0 where
  pub text : lacks_text path root ≡ false
  pub some : 0 < at
  pub within : at < length (units_at path root)

pub split-passes : {M : Type 0} (blank : M) (root : Tree M) (path : List ℕ) (at : ℕ) → reason_of blank root (Split path at) ≡ None → SplitPasses root path at
split-passes blank root path at h =
    let a = passes _ _ _ h in
    let b = passes _ _ _ a.1 in
    let c = passes _ _ _ b.1 in
    let r = or_parts _ _ c.0 in
    let z = eqb-false at 0 r.0 in
    record { text = b.0; some = omega arith; within = leb-false (length (units_at path root)) at r.1 }

pub record JoinPasses {M : Type 0} (root : Tree M) (path : List ℕ) : Type 0 where
  pub text : lacks_text path root ≡ false
  pub next : lacks_text (next_of path) root ≡ false

pub join-passes : {M : Type 0} (blank : M) (root : Tree M) (path : List ℕ) → reason_of blank root (Join path) ≡ None → JoinPasses root path
join-passes blank root path h =
    let a = passes _ _ _ h in
    let b = passes _ _ _ a.1 in
    let r = or_parts _ _ b.0 in
    record { text = r.0; next = r.1 }

pub record SetPasses {M : Type 0} (blank : M) (root : Tree M) (path bytes : List ℕ) : Type 0 where
  pub text : lacks_text path root ≡ false
  pub given : IsTrue (is_new_text bytes)
  pub no_mark : makes_close_mark (change_of blank root (SetText path bytes)) root ≡ false

pub set-passes : {M : Type 0} (blank : M) (root : Tree M) (path bytes : List ℕ) → reason_of blank root (SetText path bytes) ≡ None → SetPasses blank root path bytes
set-passes blank root path bytes h =
    let a = passes _ _ _ h in
    let b = passes _ _ _ a.1 in
    let c = passes _ _ _ b.1 in
    let d = passes _ _ _ c.1 in
    record { text = b.0; given = not-false (is_new_text bytes) c.0; no_mark = d.0 }

pub record AddPasses {M : Type 0} (blank : M) (root : Tree M) (path : List ℕ) (at : ℕ) (text : List ℕ) : Type 0 where
  pub list : lacks_list path root ≡ false
  pub within : at ≤ length (kids_at path root)
  pub given : IsTrue (is_new_text text)
  pub top : is_top path ≡ false
  pub no_mark : makes_close_mark (change_of blank root (AddText path at text)) root ≡ false

pub add-passes : {M : Type 0} (blank : M) (root : Tree M) (path : List ℕ) (at : ℕ) (text : List ℕ) → reason_of blank root (AddText path at text) ≡ None → AddPasses blank root path at text
add-passes blank root path at text h =
    let a = passes _ _ _ h in
    let b = passes _ _ _ a.1 in
    let c = passes _ _ _ b.1 in
    let d = passes _ _ _ c.1 in
    let e = passes _ _ _ d.1 in
    let f = passes _ _ _ e.1 in
    record { list = b.0; within = ltb-false (length (kids_at path root)) at c.0; given = not-false (is_new_text text) d.0; top = e.0; no_mark = f.0 }

pub record DelPasses {M : Type 0} (blank : M) (root : Tree M) (path : List ℕ) : Type 0 where
  pub text : lacks_text path root ≡ false
  pub no_mark : makes_close_mark (change_of blank root (DelText path)) root ≡ false

pub del-passes : {M : Type 0} (blank : M) (root : Tree M) (path : List ℕ) → reason_of blank root (DelText path) ≡ None → DelPasses blank root path
del-passes blank root path h =
    let a = passes _ _ _ h in
    let b = passes _ _ _ a.1 in
    let c = passes _ _ _ b.1 in
    record { text = b.0; no_mark = c.0 }

-- the text of an edit that isn't refused
pub set-given : {M : Type 0} (blank : M) (root : Tree M) (edit : Edit) {path text : List ℕ} → reason_of blank root edit ≡ None → edit ≡ SetText path text → is_new_text text ≡ true
set-given blank root edit {path} {text} h e = (set-passes blank root path text (subst (λ (d : Edit). reason_of blank root d ≡ None) e h)).given

pub add-given : {M : Type 0} (blank : M) (root : Tree M)
    (edit : Edit) {path : List ℕ} {at : ℕ} {text : List ℕ} → reason_of blank root edit ≡ None →
    edit ≡ AddText path at text → is_new_text text ≡ true
add-given blank root edit {path} {at} {text} h e = (add-passes blank root path at text (subst (λ (d : Edit). reason_of blank root d ≡ None) e h)).given
