-- Where lists stand in a tree, as a relation.
use Rattle.std.proofs.Common.{◌≡◌, ℕ, zero, suc, false, not, List, [], ◌∷◌, ◌++◌, Option, Some, None, slice_get, refl, ap, ◌∙◌, sym, subst}
use Rattle.std.specs.Option.{option_and_then, option_map}
use Rattle.pv_tree.specs.Plain.{Ending, Tree, element, text_node, cdata_node, misc_node, Forest, trees_of}
use Rattle.pv_tree.specs.Places.{kids_of, node_below, list_of, list_at, spot_at}
use Rattle.pv_tree.specs.Places.{at_node as at_spot}
use Rattle.pv_edit.specs.Reasons.{is_given, is_top, items_of, kids_at, lacks_list}
use Rattle.pv_edit.specs.Effects.{parent_of, kid_place}
use Rattle.pv_edit.proofs.Paths.{path-parts}
use Rattle.pv_edit.proofs.NodePlaces.{NodeAt, node_at, at_node}

-- the list of the document node, or of an element
pub data ListAt {M : Type 0} : List ℕ → Tree M → List (Tree M) → Type 0 where
  top : {root : Tree M} → ListAt [] root (root ∷ [])
  inside : {path x attrs : List ℕ} {e : Ending} {kids : Forest M} {m : M} {root : Tree M} → NodeAt path root (element x attrs e kids m) → ListAt (zero ∷ path) root (trees_of kids)

inside_of : {M : Type 0} (path : List ℕ) (root u : Tree M) (ts : List (Tree M)) → node_below path root ≡ Some u → list_of u ≡ Some ts → ListAt (zero ∷ path) root ts
inside_of path root (element x attrs e kids m) ts n l = let is : trees_of kids ≡ ts = cc in subst (λ k. ListAt (zero ∷ path) root k) is (inside (node_at path root (element x attrs e kids m) n))
inside_of path root (text_node units) ts n l = absurd cc
inside_of path root (cdata_node bytes) ts n l = absurd cc
inside_of path root (misc_node bytes) ts n l = absurd cc

pub at_list : {M : Type 0} (path : List ℕ) (root : Tree M) (ts : List (Tree M)) → list_at path root ≡ Some ts → ListAt path root ts
at_list [] root ts h = let is : root ∷ [] ≡ ts = cc in subst (λ k. ListAt [] root k) is top
at_list (zero ∷ path) root ts h =
    elim (node_below path root) as (λ o. node_below path root ≡ o → option_and_then list_of o ≡ Some ts → ListAt (zero ∷ path) root ts)
    [ None ↦ λ n l. absurd cc | Some u ↦ λ n l. inside_of path root u ts n l ] refl h
at_list (suc i ∷ path) root ts h = absurd cc

pub list-at : {M : Type 0} {path : List ℕ} {root : Tree M} {ts : List (Tree M)} → ListAt path root ts → list_at path root ≡ Some ts
list-at top = refl
list-at (inside n) = ap (option_and_then list_of) (at_node n)

given_items : {A : Type 0} (o : Option (List A)) → not (is_given o) ≡ false → o ≡ Some (items_of o)
given_items None h = absurd cc
given_items (Some xs) h = refl

-- where a list isn't lacking
pub listed : {M : Type 0} (path : List ℕ) (root : Tree M) → lacks_list path root ≡ false → ListAt path root (kids_at path root)
listed path root h = at_list path root (kids_at path root) (given_items (list_at path root) h)

node-below-kid : {M : Type 0} (path : List ℕ) (i : ℕ) (t : Tree M) → node_below (path ++ i ∷ []) t ≡ option_and_then (λ u. slice_get (kids_of u) i) (node_below path t)
node-below-kid [] i t = elim (slice_get (kids_of t) i) as (λ o. option_and_then (node_below []) o ≡ o) [ None ↦ refl | Some u ↦ refl ]
node-below-kid (j ∷ path) i t =
    elim (slice_get (kids_of t) j) as (λ o. option_and_then (node_below (path ++ i ∷ [])) o ≡ option_and_then (λ u. slice_get (kids_of u) i) (option_and_then (node_below path) o))
    [ None ↦ refl | Some u ↦ node-below-kid path i u ]

pub kids-items : {M : Type 0} (t : Tree M) → kids_of t ≡ items_of (list_of t)
kids-items (element x attrs e kids m) = refl
kids-items (text_node units) = refl
kids-items (cdata_node bytes) = refl
kids-items (misc_node bytes) = refl

kid-in : {M : Type 0} (i : ℕ) (o : Option (Tree M)) → option_and_then (λ u. slice_get (kids_of u) i) o ≡ slice_get (items_of (option_and_then list_of o)) i
kid-in i None = refl
kid-in i (Some u) = ap (λ ts. slice_get ts i) (kids-items u)

-- what stands at a path is a kid of the list at its parent
pub spot-kid : {M : Type 0} (path : List ℕ) (i : ℕ) (root : Tree M) → spot_at (path ++ i ∷ []) root ≡ option_map at_spot (slice_get (kids_at path root) i)
spot-kid [] zero root = refl
spot-kid [] (suc i) root = refl
spot-kid (zero ∷ path) i root = ap (option_map at_spot) (node-below-kid path i root ∙ kid-in i (node_below path root))
spot-kid (suc j ∷ path) i root = refl

pub spot-parent : {M : Type 0} (path : List ℕ) (root : Tree M) → is_top path ≡ false → spot_at path root ≡ option_map at_spot (slice_get (kids_at (parent_of path) root) (kid_place path))
spot-parent path root h = ap (λ p. spot_at p root) (path-parts path h) ∙ spot-kid (parent_of path) (kid_place path) root

-- a node of the tree, as a kid of its parent's list
pub record HasParent {M : Type 0} (path : List ℕ) (root t : Tree M) : Type 0 where
  pub list : ListAt (parent_of path) root (kids_at (parent_of path) root)
  pub kid : slice_get (kids_at (parent_of path) root) (kid_place path) ≡ Some t

some_list : {M : Type 0} (path : List ℕ) (i : ℕ) (root t : Tree M) (o : Option (List (Tree M))) → list_at path root ≡ o → slice_get (items_of o) i ≡ Some t → ListAt path root (items_of o)
some_list path i root t None l k = absurd cc
some_list path i root t (Some ts) l k = at_list path root ts l

kid_spot : {M : Type 0} (t : Tree M) (o : Option (Tree M)) → option_map at_spot o ≡ Some (at_spot t) → o ≡ Some t
kid_spot t None h = absurd cc
kid_spot t (Some u) h = cc

pub has_parent : {M : Type 0} (path : List ℕ) (root t : Tree M) → spot_at path root ≡ Some (at_spot t) → HasParent path root t
has_parent [] root t h = absurd cc
has_parent (i ∷ path) root t h =
    let kid = kid_spot t (slice_get (kids_at (parent_of (i ∷ path)) root) (kid_place (i ∷ path))) (sym (spot-parent (i ∷ path) root refl) ∙ h) in
    record { list = some_list (parent_of (i ∷ path)) (kid_place (i ∷ path)) root t (list_at (parent_of (i ∷ path)) root) refl kid; kid = kid }
