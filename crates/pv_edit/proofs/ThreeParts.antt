-- A list in three parts.
use Rattle.std.proofs.Common.{◌≡◌, ℕ, suc, ◌+◌, ◌-◌, ◌<◌, ◌≤◌, Bool, false, not, List, [], ◌∷◌, ◌++◌, length, take, drop, get_or, Option, Some, None, slice_get, refl, ap, ◌∙◌, sym, arith}
use Rattle.std.specs.Option.{option_map}
use Rattle.std.specs.List.{between, splice}
use Rattle.std.proofs.lemmas.List.{append-nil, length-map, map-append, take-append-drop, length-take-le, take-map, drop-map}
use Rattle.std.proofs.Math.Seq.{take-append_seam, drop-append_seam, drop-append-add, take-length}
use Rattle.std.proofs.lemmas.Option.{slice_get_within}
use Rattle.pv_tree.specs.Plain.{Tree, is_element}
use Rattle.pv_tree.specs.Places.{Spot, spot_at, kids_of}
use Rattle.pv_tree.specs.Places.{at_node as at_spot, at_document}
use Rattle.pv_tree.specs.PlainForms.{plain, plain_all}
use Rattle.pv_tree.specs.declared.nodes.Mark.{Mark}
use Rattle.pv_tree.specs.declared.nodes.Node.{Node}
use Rattle.pv_edit.specs.Changes.{all_kids}
use Rattle.pv_edit.specs.Effects.{parent_of, kid_place, next_of}
use Rattle.pv_edit.specs.Reasons.{is_spot, is_text, kids_at, lacks_text, lacks_element}
use Rattle.pv_edit.specs.Places.{IsInner, IsParted, first_spot}
use Rattle.pv_edit.proofs.ListPlaces.{has_parent, spot-kid}

pub get-front : {X : Type 0} (front back : List X) (x : X) → slice_get (front ++ x ∷ back) (length front) ≡ Some x
get-front [] back x = refl
get-front (y ∷ front) back x = get-front front back x

pub get-more : {X : Type 0} (front back : List X) (x : X) → slice_get (front ++ x ∷ back) (length front + 1) ≡ slice_get back 0
get-more [] back x = refl
get-more (y ∷ front) back x = let e : length (y ∷ front) + 1 ≡ suc (length front + 1) = omega arith in rw e (get-more front back x)

between-front : {X : Type 0} (front back : List X) (x : X) → between (length front) (length front + 1) (front ++ x ∷ back) ≡ x ∷ []
between-front front back x = let e : length front + 1 - length front ≡ 1 = omega arith in rw (drop-append_seam front (x ∷ back), e) refl

pub parted-splice : {M : Type 0} {ts : List (Tree M)} {place : ℕ} {front : List
    (Tree M)} {node : Tree M} {back : List (Tree M)} → IsParted ts place front node back →
    (new : List (Tree M)) → splice ts place (place + 1) new ≡ front ++ (new ++ back)
parted-splice {front = front} {node = node} {back = back} p new = rw (← p.count, p.whole, take-append_seam front (node ∷ back), drop-append-add front (node ∷ back) 1) refl

pub parted-between : {M : Type 0} {ts : List (Tree M)} {place : ℕ} {front : List
    (Tree M)} {node : Tree M} {back : List (Tree M)} → IsParted ts place front node back →
    between place (place + 1) ts ≡ node ∷ []
parted-between {front = front} {node = node} {back = back} p = rw (← p.count, p.whole) (between-front front back node)

pub parted-next : {M : Type 0} {ts : List (Tree M)} {place : ℕ} {front : List (Tree M)} {node : Tree
    M} {back : List (Tree M)} → IsParted ts place front node back → slice_get ts (place + 1)
    ≡ slice_get back 0
parted-next {front = front} {node = node} {back = back} p = rw (← p.count, p.whole) (get-more front back node)

pub all_kids-one : {M : Type 0} (t : Tree M) → all_kids (t ∷ []) ≡ kids_of t
all_kids-one t = append-nil (kids_of t)

-- a slice's first item and the rest, as the code sees them
head-split : {X : Type 0} (xs : List X) (x : X) → x ≡ get_or xs 0 x → 1 ≤ length xs → xs ≡ x ∷ take (length xs - 1) (drop 1 xs)
head-split [] x e h = absurd (omega arith)
head-split (y ∷ ys) x e h = let n : length (y ∷ ys) - 1 ≡ length ys = omega arith in rw (n, take-length ys) (ap (λ z. z ∷ ys) (sym e))

-- the parts of a slice of nodes
pub parts_of_nodes : (kids front rest : List Node) (node : Node) (back : List Node) (place : ℕ)
    (ts : List (Tree Mark)) → plain_all kids ≡ ts → front ≡ take place kids →
    rest ≡ drop place kids → node ≡ get_or rest 0 node → 1 ≤ length rest →
    back ≡ take (length rest - 1) (drop 1 rest) → place ≤ length kids
    → IsParted ts place (plain_all front) (plain node) (plain_all back)
parts_of_nodes kids front rest node back place ts e f r n l b h = record {
  whole = sym e ∙ ap plain_all (sym (take-append-drop place kids) ∙ ap (λ l. l ++ drop place kids)
      (sym f) ∙ ap (λ l. front ++ l) (sym r ∙ head-split rest node n l
      ∙ ap (λ k. node ∷ k) (sym b))) ∙ map-append plain front (node ∷ back);
  count = length-map front plain ∙ ap length f ∙ length-take-le place kids h;
}

first_is : {M : Type 0} (ts : List (Tree M)) → option_map at_spot (slice_get ts 0) ≡ first_spot ts
first_is [] = refl
first_is (t ∷ ts) = refl

-- what stands after a node
pub next_is : {M : Type 0} (path : List ℕ) (root : Tree M) (front : List (Tree M)) (node : Tree M)
    (back : List (Tree M)) → IsParted (kids_at (parent_of path) root) (kid_place path) front node
    back → spot_at (next_of path) root ≡ first_spot back
next_is path root front node back p = spot-kid (parent_of path) (kid_place path + 1) root ∙ ap (option_map at_spot) (parted-next p) ∙ first_is back

pub place_within : {M : Type 0} (path : List ℕ) (root : Tree M) → IsInner path root → kid_place path < length (kids_at (parent_of path) root)
place_within path root i = let h = has_parent path root i.node i.there in slice_get_within (kids_at (parent_of path) root) (kid_place path) i.node h.kid

-- where an element or a text isn't lacking
inner_of : {M : Type 0} (test : Tree M → Bool) (path : List ℕ) (root : Tree M) (o : Option (Spot M)) → spot_at path root ≡ o → not (is_spot test o) ≡ false → IsInner path root
inner_of test path root None s h = absurd cc
inner_of test path root (Some at_document) s h = absurd cc
inner_of test path root (Some (at_spot t)) s h = record { node = t; there = s }

pub inner_element : {M : Type 0} (path : List ℕ) (root : Tree M) → lacks_element path root ≡ false → IsInner path root
inner_element path root h = inner_of is_element path root (spot_at path root) refl h

pub inner_text : {M : Type 0} (path : List ℕ) (root : Tree M) → lacks_text path root ≡ false → IsInner path root
inner_text path root h = inner_of is_text path root (spot_at path root) refl h

-- the place of a node is one of the kids
pub node_within : (kids : List Node) (place : ℕ) (path : List ℕ) (root : Tree Mark) → plain_all kids ≡ kids_at (parent_of path) root → place ≡ kid_place path → IsInner path root → place < length kids
node_within kids place path root e p i = omega (arith, p, ap length e, length-map kids plain, place_within path root i)

pub unwrapped-list : {M : Type 0} {ts : List (Tree M)} {place : ℕ} {front : List
    (Tree M)} {node : Tree M} {back : List (Tree M)} → IsParted ts place front node back →
    splice ts place (place + 1) (all_kids (between place (place + 1) ts)) ≡ front ++ (kids_of node ++ back)
unwrapped-list {front = front} {node = node} {back = back} p = parted-splice p _ ∙ ap (λ l. front ++ (l ++ back)) (ap all_kids (parted-between p) ∙ all_kids-one node)

pub inserted-list : (kids front back : List Node) (at : ℕ) (ts new : List (Tree Mark)) →
    plain_all kids ≡ ts → front ≡ take at kids → back ≡ drop at kids →
    splice ts at at new ≡ plain_all front ++ (new ++ plain_all back)
inserted-list kids front back at ts new e f b =
    let f2 : take at ts ≡ plain_all front = ap (take at) (sym e) ∙ take-map plain at kids ∙ ap plain_all (sym f) in
    let b2 : drop at ts ≡ plain_all back = ap (drop at) (sym e) ∙ drop-map plain at kids ∙ ap plain_all (sym b) in
    rw (f2, b2) refl
