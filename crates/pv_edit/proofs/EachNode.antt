-- What holds of each node of a tree, and of each after a change.
use Rattle.std.proofs.Common.{◌≡◌, sym, refl, ℕ, ◌≤◌, true, List, [], ◌∷◌, ◌++◌, take, drop, subst}
use Rattle.std.specs.List.{between}
use Rattle.std.proofs.lemmas.List.Edits.{split_between}
use Rattle.pv_tree.specs.Plain.{Ending, Tree, element, text_node, cdata_node, misc_node, Forest, no_trees, tree, forest_of, is_element}
use Rattle.pv_edit.specs.Changes.{Change, in_place_of, list_after, ending_after, owner_after, change_kid, change_below, root_after}
use Rattle.pv_edit.proofs.Levels.{forest-trees}
use Rattle.pv_edit.proofs.NodePlaces.{KidAt, first, later, NodeAt, here, down}
use Rattle.pv_edit.proofs.DocumentAsElement.{whole, Owner, Made, after-whole}

abbrev mutual
  -- a property of this node and of each below it
  pub EachNode : {M : Type 0} → (Tree M → Type 0) → Tree M → Type 0
  EachNode P (element x attrs ending kids mark) = P (element x attrs ending kids mark) × EachNodes P kids
  EachNode P (text_node units) = P (text_node units)
  EachNode P (cdata_node bytes) = P (cdata_node bytes)
  EachNode P (misc_node bytes) = P (misc_node bytes)

  pub EachNodes : {M : Type 0} → (Tree M → Type 0) → Forest M → Type 0
  EachNodes P no_trees = Unit {0}
  EachNodes P (tree t rest) = EachNode P t × EachNodes P rest

-- An element keeps the property where a kid of it, which stays an element, is changed.
pub record StaysAbove {M : Type 0} (P : Tree M → Type 0) : Type 0 where
  pub stays : (x attrs : List ℕ) (e : Ending) (m : M) {i : ℕ} {kids : Forest M} {k : Tree M} (g : Tree M → Tree M) → KidAt i kids k → is_element k ≡ true → is_element (g k) ≡ true
      → P (element x attrs e kids m) → P (element x attrs e (change_kid g i kids) m)

kid-replaced : {M : Type 0} (P : Tree M → Type 0) {i : ℕ} {kids : Forest M} {k : Tree M}
    (g : Tree M → Tree M) → KidAt i kids k → EachNode P (g k) → EachNodes P kids →
    EachNodes P (change_kid g i kids)
kid-replaced P g first h w = (h, w.1)
kid-replaced P g (later q) h w = (w.0, kid-replaced P g q h w.1)

pub each-kid : {M : Type 0} (P : Tree M → Type 0) {i : ℕ} {kids : Forest M} {k : Tree M} → KidAt i kids k → EachNodes P kids → EachNode P k
each-kid P first w = w.0
each-kid P (later q) w = each-kid P q w.1

pub each-node : {M : Type 0} (P : Tree M → Type 0) {path : List ℕ} {t u : Tree M} → NodeAt path t u → EachNode P t → EachNode P u
each-node P here w = w
each-node P (down k n) w = each-node P n (each-kid P k w.1)

-- an element below an element, and what it becomes
pub elements-below : {M : Type 0} {path : List ℕ} {t u : Tree M} (g : Tree M → Tree M) →
    NodeAt path t u → is_element u ≡ true → is_element (g u) ≡ true → (is_element t ≡ true)
    × (is_element (change_below path g t) ≡ true)
elements-below g here h k = (h, k)
elements-below g (down q n) h k = (refl, refl)

each-changed : {M : Type 0} (P : Tree M → Type 0) → StaysAbove P →
    {path : List ℕ} {t u : Tree M} (g : Tree M → Tree M) → NodeAt path t u → is_element u ≡ true →
    is_element (g u) ≡ true → EachNode P (g u) → EachNode P t → EachNode P (change_below path g t)
each-changed P s g here hu hg h w = h
each-changed P s g (down {path = path} {x = x} {attrs = attrs} {e = e} {m = m} k n) hu hg h w =
    let b = elements-below g n hu hg in
    (s.stays x attrs e m (change_below path g) k b.0 b.1 w.0, kid-replaced P (change_below path g) k (each-changed P s g n hu hg h (each-kid P k w.1)) w.1)

pub each-joined : {M : Type 0} (P : Tree M → Type 0) (xs ys : List (Tree M)) → EachNodes P (forest_of xs) → EachNodes P (forest_of ys) → EachNodes P (forest_of (xs ++ ys))
each-joined P [] ys h k = k
each-joined P (x ∷ xs) ys h k = (h.0, each-joined P xs ys h.1 k)

each-left : {M : Type 0} (P : Tree M → Type 0) (xs ys : List (Tree M)) → EachNodes P (forest_of (xs ++ ys)) → EachNodes P (forest_of xs)
each-left P [] ys h = tt
each-left P (x ∷ xs) ys h = (h.0, each-left P xs ys h.1)

each-right : {M : Type 0} (P : Tree M → Type 0) (xs ys : List (Tree M)) → EachNodes P (forest_of (xs ++ ys)) → EachNodes P (forest_of ys)
each-right P [] ys h = h
each-right P (x ∷ xs) ys h = each-right P xs ys h.1

in-parts : {M : Type 0} (P : Tree M → Type 0) (ts : List (Tree M)) (from to : ℕ) → from ≤ to → EachNodes P (forest_of ts) → EachNodes P (forest_of (take from ts ++ (between from to ts ++ drop to ts)))
in-parts P ts from to h w = subst (λ l. EachNodes P (forest_of l)) (split_between ts from to h) w

-- of the trees that give way
pub each-old : {M : Type 0} (P : Tree M → Type 0) (ts : List (Tree M)) (from to : ℕ) → from ≤ to → EachNodes P (forest_of ts) → EachNodes P (forest_of (between from to ts))
each-old P ts from to h w = each-left P (between from to ts) (drop to ts) (each-right P (take from ts) (between from to ts ++ drop to ts) (in-parts P ts from to h w))

-- of the list after others came in their place
pub each-spliced : {M : Type 0} (P : Tree M → Type 0) (ts new : List (Tree M)) (from to : ℕ) →
    from ≤ to → EachNodes P (forest_of ts) → EachNodes P (forest_of new) →
    EachNodes P (forest_of (take from ts ++ (new ++ drop to ts)))
each-spliced P ts new from to h w n =
    let p = in-parts P ts from to h w in
    each-joined P (take from ts) (new ++ drop to ts) (each-left P (take from ts) (between from to ts ++ drop to ts) p)
    (each-joined P new (drop to ts) n (each-right P (between from to ts) (drop to ts) (each-right P (take from ts) (between from to ts ++ drop to ts) p)))

-- of the kids of the owner of a changed list
pub each-of-list : {M : Type 0} (P : Tree M → Type 0) {m : M} {path : List ℕ} {root : Tree M} {ts : List (Tree M)} → Owner m path root ts → EachNode P (whole m root) → EachNodes P (forest_of ts)
each-of-list P o w = subst (λ l. EachNodes P (forest_of l)) o.are (subst (λ k. EachNodes P k) (sym (forest-trees o.kids)) (each-node P o.node w).1)

-- Each node of the root after a change has the property, where the owner of the changed list and what came in place have it.
pub each-after : {M : Type 0} (P : Tree M → Type 0) → StaysAbove P → {m : M} (path : List ℕ) (c : Change M) (root : Tree M) (ts : List (Tree M)) (d : Made m path c root ts) → EachNode P (whole m root)
    → P (element d.owner.name d.owner.attrs (ending_after c.shorten d.owner.ending (list_after c ts)) (forest_of (list_after c ts)) d.owner.mark)
    → EachNodes P (forest_of (in_place_of c.filling (between c.from c.to ts))) → EachNode P (root_after path c root)
each-after P s {m = m} path c root ts d w p n =
    let o = d.owner in
    let l : EachNodes P (forest_of (list_after c ts)) = each-spliced P ts (in_place_of c.filling (between c.from c.to ts)) c.from c.to d.order (each-of-list P o w) n in
    let u : EachNode P (owner_after c (element o.name o.attrs o.ending o.kids o.mark)) =
    subst (λ k. P (element o.name o.attrs (ending_after c.shorten o.ending (list_after c k)) (forest_of (list_after c k)) o.mark) × EachNodes P (forest_of (list_after c k))) (sym o.are) (p, l) in
    let r : EachNode P (whole m (root_after path c root)) = subst (λ t. EachNode P t) (sym (after-whole path c root ts d)) (each-changed P s (owner_after c) o.node refl refl u w) in
    r.1.0
