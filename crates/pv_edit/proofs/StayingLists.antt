-- The lists that a change leaves as they are.
use Rattle.std.proofs.Common.{◌≡◌, ◌∙◌, ap, sym, refl, ℕ, zero, suc, ◌+◌, ◌-◌, ◌<◌, ◌≤◌, ◌⊎◌, inl, inr, true, false, List, [], ◌∷◌, ◌++◌, length, take, drop, map, Some, None, slice_get, arith, subst}
use Rattle.std.specs.Prelude.{option_map}
use Rattle.std.specs.List.{AllByRecursion, between}
use Rattle.std.proofs.lemmas.Bool.{lt-ltb, le-ltb, eq-eqb, ne_eqb, cases_lt}
use Rattle.std.proofs.lemmas.List.{append-nil, take-append-drop, length-take-le}
use Rattle.std.proofs.lemmas.List.Edits.{split_between}
use Rattle.std.proofs.lemmas.Option.{slice_get_within}
use Rattle.pv_tree.specs.Plain.{Ending, Tree, element, text_node, cdata_node, misc_node, Forest, no_trees, tree, forest_of, trees_of, is_element}
use Rattle.pv_tree.specs.Places.{kids_of}
use Rattle.pv_tree.specs.Heads.{head_of, heads_of}
use Rattle.pv_tree.proofs.Levels.{trees-forest}
use Rattle.pv_edit.specs.Changes.{Change, Filling, others, around, inner, named, with_name, all_kids, in_place_of, list_after, owner_after, change_kid, change_below}
use Rattle.pv_edit.specs.FittingChanges.{CanFill}
use Rattle.pv_edit.specs.Origins.{origin_inside, origin_below, origin_at}
use Rattle.pv_edit.specs.Reasons.{is_one_element, is_top}
use Rattle.pv_edit.proofs.CutParts.{front-length}
use Rattle.pv_edit.proofs.NodePlaces.{KidAt, first, later, NodeAt, here, down, kid_at, at_kid}

-- Two elements of one name and one mark, whose kids have the same heads.
pub record LooksSame {M : Type 0} (t u : Tree M) : Type 0 where
  pub name : List ℕ
  pub mark : M
  pub attrs : List ℕ
  pub ending : Ending
  pub kids : Forest M
  pub is : t ≡ element name attrs ending kids mark
  pub attrs2 : List ℕ
  pub ending2 : Ending
  pub kids2 : Forest M
  pub is2 : u ≡ element name attrs2 ending2 kids2 mark
  pub heads : heads_of kids ≡ heads_of kids2

pub same-element : {M : Type 0} (t : Tree M) → is_element t ≡ true → LooksSame t t
same-element (element x attrs e kids m) h = record { name = x; mark = m; attrs = attrs; ending = e; kids = kids; is = refl; attrs2 = attrs; ending2 = e; kids2 = kids; is2 = refl; heads = refl }
same-element (text_node units) h = absurd cc
same-element (cdata_node bytes) h = absurd cc
same-element (misc_node bytes) h = absurd cc

-- something comes that wasn't in the list
abbrev pub Brings : {M : Type 0} → Filling M → Type 0
Brings (others trees) = Unit {0}
Brings (around name attrs ending mark) = Unit {0}
Brings inner = ⊥
Brings (named name) = Unit {0}

-- What stands at a path below a node after the change: it stood there before, or it came in the changed list, where it is kid number k of what came.
pub data Came {M : Type 0} (c : Change M) (list : List ℕ) (new : List (Tree M)) (t : Tree M) (path : List ℕ) (v : Tree M) : Type 0 where
  stood : (origin : List ℕ) (u : Tree M) → origin_at list (origin_below c (length new)) path ≡ Some origin → is_top path ≡ is_top origin → NodeAt origin t u → LooksSame u v → Came c list new t path v
  came : Brings c.filling → (k : ℕ) → path ≡ list ++ (c.from + k) ∷ [] → slice_get new k ≡ Some v → Came c list new t path v

-- ---- above the changed list
heads-kid : {M : Type 0} {j : ℕ} {kids : Forest M} {k : Tree M} (h : Tree M → Tree M) → KidAt j kids k → head_of (h k) ≡ head_of k → heads_of (change_kid h j kids) ≡ heads_of kids
heads-kid h (first {rest = rest}) e = ap (λ d. d ∷ heads_of rest) e
heads-kid h (later {t = t} q) e = ap (λ l. head_of t ∷ l) (heads-kid h q e)

head-below : {M : Type 0} {path : List ℕ} {t u : Tree M} (g : Tree M → Tree M) → NodeAt path t u → head_of (g u) ≡ head_of u → head_of (change_below path g t) ≡ head_of t
head-below g here e = e
head-below g (down k n) e = refl

data KidCase {M : Type 0} (h : Tree M → Tree M) (i j : ℕ) (kids : Forest M) (v : Tree M) : Type 0 where
  that : i ≡ j → (k : Tree M) → KidAt j kids k → v ≡ h k → KidCase h i j kids v
  other2 : (i ≡ j → ⊥) → KidAt i kids v → KidCase h i j kids v

deeper-case : {M : Type 0} {h : Tree M → Tree M} {i j : ℕ} {t : Tree M} {kids : Forest M} {v : Tree M} → KidCase h i j kids v → KidCase h (suc i) (suc j) (tree t kids) v
deeper-case (that e k q s) = that (ap suc e) k (later q) s
deeper-case (other2 d q) = other2 (λ e. d (omega arith)) (later q)

kid-case : {M : Type 0} (h : Tree M → Tree M) (i j : ℕ) (kids : Forest M) (v : Tree M) → slice_get (trees_of (change_kid h j kids)) i ≡ Some v → KidCase h i j kids v
kid-case h i j no_trees v q = absurd cc
kid-case h zero zero (tree t rest) v q = that refl t first (let e : h t ≡ v = cc in sym e)
kid-case h zero (suc j) (tree t rest) v q = other2 (λ e. omega arith) (kid_at zero (tree t rest) v q)
kid-case h (suc i) zero (tree t rest) v q = other2 (λ e. omega arith) (kid_at (suc i) (tree t rest) v q)
kid-case h (suc i) (suc j) (tree t rest) v q = deeper-case (kid-case h i j rest v q)

-- ---- the changed list
get-left : {X : Type 0} (xs ys : List X) (i : ℕ) → i < length xs → slice_get (xs ++ ys) i ≡ slice_get xs i
get-left [] ys i h = absurd (omega arith)
get-left (x ∷ xs) ys zero h = refl
get-left (x ∷ xs) ys (suc i) h = get-left xs ys i (omega arith)

get-right : {X : Type 0} (xs ys : List X) (i : ℕ) → slice_get (xs ++ ys) (length xs + i) ≡ slice_get ys i
get-right {X} [] ys i = let e : length {A = X} [] + i ≡ i = omega arith in ap (slice_get ys) e
get-right (x ∷ xs) ys i = let e : length (x ∷ xs) + i ≡ suc (length xs + i) = omega arith in ap (slice_get (x ∷ xs ++ ys)) e ∙ get-right xs ys i

-- kid number i of the list after the change
data Place {M : Type 0} (c : Change M) (ts new : List (Tree M)) (i : ℕ) (k : Tree M) : Type 0 where
  in-front : i < c.from → slice_get ts i ≡ Some k → Place c ts new i k
  in-new : (j : ℕ) → i ≡ c.from + j → j < length new → slice_get new j ≡ Some k → Place c ts new i k
  in-back : (j : ℕ) → i ≡ c.from + length new + j → slice_get ts (c.to + j) ≡ Some k → Place c ts new i k

place-of : {M : Type 0} (c : Change M) (ts new : List (Tree M)) (i : ℕ) (k : Tree M) →
    c.from ≤ c.to → c.to ≤ length ts → slice_get (take c.from ts ++ (new ++ drop c.to ts)) i
    ≡ Some k → Place c ts new i k
place-of c ts new i k h w q = by (cases_lt i c.from) (cases_lt i (c.from + length new))
  where
    front : length (take c.from ts) ≡ c.from
    front = front-length ts c.from c.to h w

    whole : take c.from ts ++ drop c.from ts ≡ ts
    whole = take-append-drop c.from ts

    upto : take c.to ts ++ drop c.to ts ≡ ts
    upto = take-append-drop c.to ts

    by : (i < c.from) ⊎ (c.from ≤ i) → (i < c.from + length new) ⊎ (c.from + length new ≤ i) → Place c ts new i k
    by (inl l) _ =
        let a = get-left (take c.from ts) (new ++ drop c.to ts) i (omega (arith, front)) in
        let b = get-left (take c.from ts) (drop c.from ts) i (omega (arith, front)) in
        in-front l (ap (λ xs. slice_get xs i) (sym whole) ∙ b ∙ sym a ∙ q)
    by (inr l) (inl n) =
        let j = i - c.from in
        let e : length (take c.from ts) + j ≡ i = omega (arith, front) in
        let a = get-right (take c.from ts) (new ++ drop c.to ts) j in
        let b = get-left new (drop c.to ts) j (omega arith) in
        in-new j (omega arith) (omega arith) (sym b ∙ sym a ∙ ap (slice_get (take c.from ts ++ (new ++ drop c.to ts))) e ∙ q)
    by (inr l) (inr n) =
        let j = i - (c.from + length new) in
        let e : length (take c.from ts) + (length new + j) ≡ i = omega (arith, front) in
        let a = get-right (take c.from ts) (new ++ drop c.to ts) (length new + j) in
        let b = get-right new (drop c.to ts) j in
        let d = get-right (take c.to ts) (drop c.to ts) j in
        let t : length (take c.to ts) ≡ c.to = length-take-le c.to ts w in
        in-back j (omega arith)
        (ap (λ xs. slice_get xs (c.to + j)) (sym upto) ∙ ap (λ n. slice_get (take c.to ts
        ++ drop c.to ts) (n + j)) (sym t) ∙ d ∙ sym b ∙ sym a
        ∙ ap (slice_get (take c.from ts ++ (new ++ drop c.to ts))) e ∙ q)

-- kid number j of those that give way
old-get : {M : Type 0} (ts : List (Tree M)) (from to j : ℕ) (k : Tree M) → from ≤ to → to ≤ length ts → slice_get (between from to ts) j ≡ Some k → slice_get ts (from + j) ≡ Some k
old-get ts from to j k h w q =
    let n = front-length ts from to h w in
    let l = slice_get_within (between from to ts) j k q in
    ap (λ xs. slice_get xs (from + j)) (split_between ts from to h) ∙ ap (λ m. slice_get (take from ts ++ (between from to ts ++ drop to ts)) (m + j)) (sym n)
    ∙ get-right (take from ts) (between from to ts ++ drop to ts) j ∙ get-left (between from to ts) (drop to ts) j l ∙ q

pub get-one : {X : Type 0} (x y : X) (j : ℕ) → slice_get (x ∷ []) j ≡ Some y → (j ≡ 0) × (x ≡ y)
get-one x y zero h = (refl, cc)
get-one x y (suc j) h = absurd cc

kid-node : {M : Type 0} {i : ℕ} {x attrs : List ℕ} {e : Ending} {kids : Forest
    M} {m : M} {path : List ℕ} {v : Tree M} → NodeAt (i ∷ path) (element x attrs e kids m) v →
    (k : Tree M) × (slice_get (trees_of kids) i ≡ Some k) × NodeAt path k v
kid-node (down {k = k} q n) = (k, at_kid q, n)

-- new trees have no kids
abbrev pub HasNoKids : {M : Type 0} → Tree M → Type 0
HasNoKids t = kids_of t ≡ []

abbrev pub HaveNoKids : {M : Type 0} → Filling M → Type 0
HaveNoKids (others trees) = AllByRecursion HasNoKids trees
HaveNoKids (around name attrs ending mark) = Unit {0}
HaveNoKids inner = Unit {0}
HaveNoKids (named name) = Unit {0}

-- what stands in what came: kid number j of it, or something that stood below the owner
data NewCase {M : Type 0} (g : Filling M) (from j : ℕ) (path : List ℕ) (t k v : Tree M) : Type 0 where
  is-new : Brings g → path ≡ [] → k ≡ v → NewCase g from j path t k v
  was-old : (origin : List ℕ) → origin_inside g from j path ≡ Some origin → is_top origin ≡ false → NodeAt origin t v → NewCase g from j path t k v

no-kids : {M : Type 0} (trees : List (Tree M)) (j : ℕ) (k : Tree M) → AllByRecursion HasNoKids trees → slice_get trees j ≡ Some k → kids_of k ≡ []
no-kids [] j k all q = absurd cc
no-kids (t ∷ trees) zero k all q = let e : t ≡ k = cc in ap kids_of (sym e) ∙ all.0
no-kids (t ∷ trees) (suc j) k all q = no-kids trees j k all.1 q

no-kid-below : {M : Type 0} (k v : Tree M) (i : ℕ) (path : List ℕ) → kids_of k ≡ [] → NodeAt (i ∷ path) k v → ⊥
no-kid-below k v i path h (down {kids = kids} q n) = let e : slice_get (trees_of kids) i ≡ Some _ = at_kid q in let z : slice_get (trees_of kids) i ≡ None = ap (λ l. slice_get l i) h in cc

here-same : {M : Type 0} {t v : Tree M} → NodeAt [] t v → t ≡ v
here-same here = refl

one-element : {M : Type 0} (old : List (Tree M)) → is_one_element old ≡ true → (x : List ℕ) × (attrs : List ℕ) × (e : Ending) × (kids : Forest M) × (m : M) × (old ≡ element x attrs e kids m ∷ [])
one-element [] h = absurd cc
one-element (element x attrs e kids m ∷ []) h = (x, attrs, e, kids, m, refl)
one-element (text_node units ∷ []) h = absurd cc
one-element (cdata_node bytes ∷ []) h = absurd cc
one-element (misc_node bytes ∷ []) h = absurd cc
one-element (t ∷ u ∷ ts) h = absurd cc

new-case : {M : Type 0} (from to : ℕ) (g : Filling M) (x attrs : List ℕ) (e : Ending)
    (kids : Forest M) (m : M) → from ≤ to → to ≤ length (trees_of kids) →
    CanFill g (between from to (trees_of kids)) → HaveNoKids g
    → (j : ℕ) (path : List ℕ) (k v : Tree M) → slice_get (in_place_of g (between from to (trees_of kids))) j ≡ Some k → NodeAt path k v → NewCase g from j path (element x attrs e kids m) k v
new-case from to (others trees) x attrs e kids m h w f z j [] k v q n = is-new tt refl (here-same n)
new-case from to (others trees) x attrs e kids m h w f z j (i ∷ path) k v q n = absurd (no-kid-below k v i path (no-kids trees j k z q) n)
new-case from to (around name attrs2 ending mark) x attrs e kids m h w f z j [] k v q n = is-new tt refl (here-same n)
new-case from to (around name attrs2 ending mark) x attrs e kids m h w f z j (i ∷ path) k v q n =
    let old = between from to (trees_of kids) in
    let o = get-one (element name attrs2 ending (forest_of old) mark) k j q in
    let d = kid-node (subst (λ t. NodeAt (i ∷ path) t v) (sym o.1) n) in
    let g = old-get (trees_of kids) from to i d.0 h w (ap (λ l. slice_get l i) (sym (trees-forest old)) ∙ d.1) in
    was-old ((from + i) ∷ path) refl refl (down (kid_at (from + i) kids d.0 g) d.2)
new-case from to inner x attrs e kids m h w f z j path k v q n =
    let old = between from to (trees_of kids) in
    let o = one-element old f in
    let g : slice_get (trees_of kids) (from + 0) ≡ Some (element o.0 o.1 o.2 o.3 o.4) = old-get (trees_of kids) from to 0 (element o.0 o.1 o.2 o.3 o.4) h w (ap (λ l. slice_get l 0) o.5) in
    let zero_more : from + 0 ≡ from = omega arith in
    let a : slice_get (trees_of o.3) j ≡ Some k = ap (λ l. slice_get l j) (sym (append-nil (trees_of o.3))) ∙ ap (λ l. slice_get (all_kids l) j) (sym o.5) ∙ q in
    was-old (from ∷ j ∷ path) refl refl (down (kid_at from kids (element o.0 o.1 o.2 o.3 o.4) (ap (slice_get (trees_of kids)) (sym zero_more) ∙ g)) (down (kid_at j o.3 k a) n))
new-case from to (named name) x attrs e kids m h w f z j [] k v q n = is-new tt refl (here-same n)
new-case from to (named name) x attrs e kids m h w f z j (i ∷ path) k v q n =
    let old = between from to (trees_of kids) in
    let o = one-element old f in
    let g : slice_get (trees_of kids) (from + 0) ≡ Some (element o.0 o.1 o.2 o.3 o.4) = old-get (trees_of kids) from to 0 (element o.0 o.1 o.2 o.3 o.4) h w (ap (λ l. slice_get l 0) o.5) in
    let b = get-one (element name o.1 o.2 o.3 o.4) k j (ap (λ l. slice_get (map (with_name name) l) j) (sym o.5) ∙ q) in
    let d = kid-node (subst (λ t. NodeAt (i ∷ path) t v) (sym b.1) n) in
    let same : from + j ≡ from + 0 = ap (λ k. from + k) b.0 in
    was-old ((from + j) ∷ i ∷ path) refl refl (down (kid_at (from + j) kids (element o.0 o.1 o.2 o.3 o.4) (ap (slice_get (trees_of kids)) same ∙ g)) (down (kid_at i o.3 d.0 d.1) d.2))

-- below the owner of the changed list
owner-came : {M : Type 0} (c : Change M) (x attrs : List ℕ) (e : Ending) (kids : Forest M) (m : M) →
    c.from ≤ c.to → c.to ≤ length (trees_of kids) →
    CanFill c.filling (between c.from c.to (trees_of kids)) → HaveNoKids c.filling
    → (i : ℕ) (path : List ℕ) (v : Tree M) →
    NodeAt (i ∷ path) (owner_after c (element x attrs e kids m)) v → is_element v ≡ true →
    Came c [] (in_place_of c.filling (between c.from c.to (trees_of kids)))
    (element x attrs e kids m) (i ∷ path) v
owner-came {M = M} c x attrs e kids m h w f z i path v n hv =
    let d = kid-node n in
    by (place-of c (trees_of kids) new i d.0 h w (ap (λ l. slice_get l i) (sym (trees-forest (list_after c (trees_of kids)))) ∙ d.1)) d.2
  where
    new : List (Tree M)
    new = in_place_of c.filling (between c.from c.to (trees_of kids))

    inside-case : (k : Tree M) (j : ℕ) → i ≡ c.from + j → j < length new →
        slice_get new j ≡ Some k → NewCase c.filling c.from j path (element x attrs e kids m) k v →
        Came c [] new (element x attrs e kids m) (i ∷ path) v
    inside-case k j a l q (is-new b p s) = came b j (ap (λ r. i ∷ r) p ∙ ap (λ r. r ∷ []) a) (q ∙ ap Some s)
    inside-case k j a l q (was-old origin o top node) =
        let less : i - c.from ≡ j = omega arith in
        let t = le-ltb i c.from (omega arith) in
        let u = lt-ltb i (c.from + length new) (omega arith) in
        stood origin v (rw (t, u, less) o) (sym top) node (same-element v hv)

    by : {k : Tree M} → Place c (trees_of kids) new i k → NodeAt path k v → Came c [] new (element x attrs e kids m) (i ∷ path) v
    by {k} (in-front l q) b = let t = lt-ltb i c.from l in stood (i ∷ path) v (rw t refl) refl (down (kid_at i kids k q) b) (same-element v hv)
    by {k} (in-new j a l q) b = inside-case k j a l q (new-case c.from c.to c.filling x attrs e kids m h w f z j path k v q b)
    by {k} (in-back j a q) b =
        let less : i - (c.from + length new) ≡ j = omega arith in
        let t = le-ltb i c.from (omega arith) in
        let u = le-ltb i (c.from + length new) (omega arith) in
        stood ((c.to + j) ∷ path) v (rw (t, u, less) refl) refl (down (kid_at (c.to + j) kids k q) b) (same-element v hv)

-- ---- at any path
deeper-came : {M : Type 0} {c : Change M} {list : List ℕ} {new : List (Tree M)} {k v : Tree
    M} {path : List ℕ} (j : ℕ) (x attrs : List ℕ) (e : Ending) (kids : Forest M) (m : M) →
    KidAt j kids k → Came c list new k path v → Came c (j ∷ list) new (element x attrs e kids m) (j ∷ path) v
deeper-came {c = c} {list = list} {new = new} {path = path} j x attrs e kids m q (stood origin u o top n s) =
    let t = eq-eqb j j refl in
    stood (j ∷ origin) u (rw t (ap (option_map (λ p. j ∷ p)) o)) refl (down q n) s
deeper-came j x attrs e kids m q (came b k p s) = came b k (ap (λ r. j ∷ r) p) s

kid-came : {M : Type 0} (c : Change M) (new : List (Tree M)) (f : Tree M → Tree M) (i j : ℕ)
    (list path x attrs : List ℕ) (e : Ending) (kids : Forest M) (m : M) (kid y v : Tree M) →
    KidAt j kids kid → KidCase f i j kids y → NodeAt path y v → is_element v ≡ true
    → (i ≡ j → NodeAt path (f kid) v → Came c list new kid path v) → Came c (j ∷ list) new (element x attrs e kids m) (i ∷ path) v
kid-came c new f i j list path x attrs e kids m kid y v k (that a t q s) at hv rec =
    let one = at_kid q in
    let two = at_kid k in
    let same : t ≡ kid = cc in
    subst (λ r. Came c (j ∷ list) new (element x attrs e kids m) (r ∷ path) v) (sym a) (deeper-came j x attrs e kids m k (rec a (subst (λ r. NodeAt path r v) (s ∙ ap f same) at)))
kid-came c new f i j list path x attrs e kids m kid y v k (other2 a q) at hv rec = let t = ne_eqb i j a in stood (i ∷ path) v (rw t refl) refl (down q at) (same-element v hv)

pub all-came : {M : Type 0} (c : Change M) {list : List ℕ} {t : Tree M} {x attrs : List
    ℕ} {e : Ending} {kids : Forest M} {m : M} → NodeAt list t (element x attrs e kids m) →
    c.from ≤ c.to → c.to ≤ length (trees_of kids) →
    CanFill c.filling (between c.from c.to (trees_of kids)) → HaveNoKids c.filling
    → (path : List ℕ) (v : Tree M) → (path ≡ list → ⊥) →
    NodeAt path (change_below list (owner_after c) t) v → is_element v ≡ true →
    Came c list (in_place_of c.filling (between c.from c.to (trees_of kids))) t path v
all-came c here h w f z [] v other n hv = absurd (other refl)
all-came c (here {t = element x attrs e kids m}) h w f z (i ∷ path) v other n hv = owner-came c x attrs e kids m h w f z i path v n hv
all-came c (down {i = j} {path = list} {x = x} {attrs = attrs} {e = e} {kids = kids} {m = m} k n) h w f z [] v other b hv =
    stood [] (element x attrs e kids m) refl refl here
    (let s = here-same b in record {
      name = x;
      mark = m;
      attrs = attrs;
      ending = e;
      kids = kids;
      is = refl;
      attrs2 = attrs;
      ending2 = e;
      kids2 = change_kid (change_below list (owner_after c)) j kids;
      is2 = sym s;
      heads = sym (heads-kid (change_below list (owner_after c)) k (head-below (owner_after c) n refl));
    })
all-came c (down {i = j} {path = list} {x = x} {attrs = attrs} {e = e} {kids = kids} {m = m} {k = kid} k n) h w f z (i ∷ path) v other b hv =
    let d = kid-node b in
    kid-came c _ (change_below list (owner_after c)) i j list path x attrs e kids m kid d.0 v k (kid-case (change_below list (owner_after c)) i j kids d.0 d.1) d.2 hv
    (λ a node. all-came c n h w f z path v (λ p. other (ap (λ r. r ∷ path) a ∙ ap (λ r. j ∷ r) p)) node hv)
