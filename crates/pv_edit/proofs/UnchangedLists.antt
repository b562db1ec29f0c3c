-- The lists that an edit and its inverse leave as they are.
use Rattle.std.proofs.Common.{◌≡◌, ◌∙◌, ap, sym, refl, ℕ, zero, suc, ◌+◌, ◌≤◌, Bool, true, false, List, [], ◌∷◌, ◌++◌, length, Option, Some, None, slice_get, subst}
use Rattle.std.specs.List.{between}
use Rattle.std.specs.Option.{option_and_then, option_map}
use Rattle.pv_tree.specs.Plain.{Ending, Tree, element, text_node, cdata_node, misc_node, Forest, trees_of, is_element, PlainDoc}
use Rattle.pv_tree.specs.Places.{node_below, list_of, list_at, spot_at}
use Rattle.pv_tree.specs.Places.{at_node as at_spot}
use Rattle.pv_tree.specs.Heads.{heads_of}
use Rattle.pv_edit.specs.Changes.{Change, in_place_of, root_after, doc_after}
use Rattle.pv_edit.specs.FittingChanges.{CanFill}
use Rattle.pv_edit.specs.Inverses.{name_on}
use Rattle.pv_edit.specs.Origins.{origin_at, origin_below, number_of_new, mark_on, IsSameList, IsKeptList}
use Rattle.pv_edit.specs.Reasons.{is_top}
use Rattle.pv_edit.proofs.Levels.{forest-trees}
use Rattle.pv_edit.proofs.NodePlaces.{NodeAt, at_node, node_at}
use Rattle.pv_edit.proofs.StayingLists.{HaveNoKids, Brings, LooksSame, Came, stood, came, all-came}
use Rattle.pv_edit.proofs.DocumentAsElement.{whole, Made, owner-kids, after-whole, list-whole}

-- the owner of a list, the document node as an element
list-owner : {M : Type 0} (path : List ℕ) (t : Tree M) (o : Option (Tree M))
    (kids : List (Tree M)) → node_below path t ≡ o → option_and_then list_of o ≡ Some kids →
    (v : Tree M) × (NodeAt path t v) × (is_element v ≡ true)
list-owner path t None kids n h = absurd cc
list-owner path t (Some (element x attrs e k m)) kids n h = (element x attrs e k m, node_at path t (element x attrs e k m) n, refl)
list-owner path t (Some (text_node units)) kids n h = absurd cc
list-owner path t (Some (cdata_node bytes)) kids n h = absurd cc
list-owner path t (Some (misc_node bytes)) kids n h = absurd cc

-- what is told of the owner at a path, by the tree that the document node is part of
list-told : {M : Type 0} (doc : PlainDoc M) (path : List ℕ) (x attrs : List ℕ) (e : Ending)
    (kids : Forest M) (m : M) → NodeAt path (whole doc.mark doc.root) (element x attrs e kids m) →
    list_at path doc.root ≡ Some (trees_of kids)
list-told doc path x attrs e kids m n = list-whole doc.mark path doc.root ∙ ap (option_and_then list_of) (at_node n)

mark-told : {M : Type 0} (doc : PlainDoc M) (path : List ℕ) (x attrs : List ℕ) (e : Ending)
    (kids : Forest M) (m : M) → NodeAt path (whole doc.mark doc.root) (element x attrs e kids m) →
    mark_on doc.mark (spot_at path doc.root) ≡ m
mark-told doc [] x attrs e kids m n = let h = at_node n in cc
mark-told doc (zero ∷ path) x attrs e kids m n = let h : node_below path doc.root ≡ Some (element x attrs e kids m) = at_node n in ap (λ o. mark_on doc.mark (option_map at_spot o)) h
mark-told doc (suc i ∷ path) x attrs e kids m n = let h = at_node n in absurd cc

-- two owners of one name are both the document node or neither
name-told : {M : Type 0} (doc : PlainDoc M) (path : List ℕ) (x attrs : List ℕ) (e : Ending)
    (kids : Forest M) (m : M) → NodeAt path (whole doc.mark doc.root) (element x attrs e kids m) →
    is_top path ≡ false → name_on (spot_at path doc.root) ≡ x
name-told doc [] x attrs e kids m n t = absurd cc
name-told doc (zero ∷ path) x attrs e kids m n t = let h : node_below path doc.root ≡ Some (element x attrs e kids m) = at_node n in ap (λ o. name_on (option_map at_spot o)) h
name-told doc (suc i ∷ path) x attrs e kids m n t = let h = at_node n in absurd cc

top-name : {M : Type 0} (path : List ℕ) (root : Tree M) → is_top path ≡ true → name_on (spot_at path root) ≡ []
top-name [] root h = refl
top-name (i ∷ path) root h = absurd cc

names-told : {M : Type 0} (before after : PlainDoc M) (origin path : List ℕ) (s t : Tree M)
    (b c : Bool) → is_top path ≡ b → is_top origin ≡ c → b ≡ c →
    NodeAt origin (whole before.mark before.root) s → NodeAt path (whole after.mark after.root) t →
    LooksSame s t
    → name_on (spot_at origin before.root) ≡ name_on (spot_at path after.root)
names-told before after origin path s t true true p o e n m l = top-name origin before.root o ∙ sym (top-name path after.root p)
names-told before after origin path s t false false p o e n m l =
    name-told before origin l.name l.attrs l.ending l.kids l.mark (subst (λ u. NodeAt origin (whole before.mark before.root) u) l.is n) o
    ∙ sym (name-told after path l.name l.attrs2 l.ending2 l.kids2 l.mark (subst (λ u. NodeAt path (whole after.mark after.root) u) l.is2 m) p)
names-told before after origin path s t true false p o e n m l = absurd cc
names-told before after origin path s t false true p o e n m l = absurd cc

same-list : {M : Type 0} (before after : PlainDoc M) (origin path : List ℕ) (s t : Tree M) →
    is_top path ≡ is_top origin → NodeAt origin (whole before.mark before.root) s →
    NodeAt path (whole after.mark after.root) t → LooksSame s t → IsSameList before after origin path
same-list before after origin path s t top n m l =
    let a = subst (λ u. NodeAt origin (whole before.mark before.root) u) l.is n in
    let b = subst (λ u. NodeAt path (whole after.mark after.root) u) l.is2 m in
    record {
      kids = trees_of l.kids;
      stood = list-told before origin l.name l.attrs l.ending l.kids l.mark a;
      others = trees_of l.kids2;
      stands = list-told after path l.name l.attrs2 l.ending2 l.kids2 l.mark b;
      same_heads = ap heads_of (forest-trees l.kids) ∙ l.heads ∙ sym (ap heads_of (forest-trees l.kids2));
      same_name = names-told before after origin path s t (is_top path) (is_top origin) refl refl top n m l;
      same_mark = mark-told before origin l.name l.attrs l.ending l.kids l.mark a ∙ sym (mark-told after path l.name l.attrs2 l.ending2 l.kids2 l.mark b);
    }

kept-list : {M : Type 0} (c : Change M) (doc : PlainDoc M) (path : List ℕ) (v : Tree M)
    (new : List (Tree M)) → length new ≡ number_of_new c doc.root →
    NodeAt path (whole doc.mark (root_after c.list c doc.root)) v
    → ((k : ℕ) → Brings c.filling → path ≡ c.list ++ (c.from + k) ∷ [] → slice_get new k ≡ Some v → ⊥) → Came c c.list new (whole doc.mark doc.root) path v → IsKeptList c doc (doc_after c doc) path
kept-list c doc path v new count n none (stood origin u o top at same) = record {
  origin = origin;
  is_origin = ap (λ k. origin_at c.list (origin_below c k) path) (sym count) ∙ o;
  same = same-list doc (doc_after c doc) origin path u v top at n same;
}
kept-list c doc path v new count n none (came b k p s) = absurd (none k b p s)

-- A list of the document after a change stood there before, where it isn't the changed one, and isn't that of an element which came.
pub change-keeps : {M : Type 0} (c : Change M) (doc : PlainDoc M) (ts : List (Tree M)) →
    Made doc.mark c.list c doc.root ts → HaveNoKids c.filling →
    (path : List ℕ) (kids : List (Tree M)) → list_at path (root_after c.list c doc.root)
    ≡ Some kids → (path ≡ c.list → ⊥)
    → ((k : ℕ) (v : Tree M) → Brings c.filling → path ≡ c.list ++ (c.from + k) ∷ [] →
    slice_get (in_place_of c.filling (between c.from c.to ts)) k ≡ Some v →
    is_element v ≡ true → ⊥) → IsKeptList c doc (doc_after c doc) path
change-keeps {M = M} c doc ts d z path kids l other none =
    let o = d.owner in
    let v = list-owner path (whole doc.mark (root_after c.list c doc.root)) (node_below path
    (whole doc.mark (root_after c.list c doc.root))) kids refl
    (sym (list-whole doc.mark path (root_after c.list c doc.root)) ∙ l) in
    let n = subst (λ t. NodeAt path t v.0) (after-whole c.list c doc.root ts d) v.1 in
    let within = subst (λ k. c.to ≤ length k) (sym o.are) d.within in
    let fits = subst (λ k. CanFill c.filling (between c.from c.to k)) (sym o.are) d.fits in
    kept-list c doc path v.0 (in_place_of c.filling (between c.from c.to (trees_of o.kids)))
    (ap (λ k. length (in_place_of c.filling (between c.from c.to k))) (o.are ∙ sym (owner-kids o))) v.1
    (λ k b p s. none k v.0 b p (ap (λ ts. slice_get (in_place_of c.filling (between c.from c.to ts)) k) (sym o.are) ∙ s) v.2)
    (all-came c o.node d.order within fits z path v.0 other n v.2)
