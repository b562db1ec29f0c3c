-- A change of a list that undoes another.
use Rattle.std.proofs.Common.{◌≡◌, ◌∙◌, ap, sym, refl, ℕ, zero, suc, ◌+◌, ◌<◌, true, false, List, [], ◌∷◌, length, Some, arith, subst}
use Rattle.std.specs.List.{between}
use Rattle.std.specs.Option.{option_map}
use Rattle.std.proofs.lemmas.Bool.{and_parts, and_from}
use Rattle.pv_tree.specs.Plain.{Ending, short, tagged, Tree, element, Forest, no_trees, tree, forest_of, trees_of}
use Rattle.pv_tree.specs.Places.{spot_at, node_below}
use Rattle.pv_tree.specs.Places.{at_node as at_spot}
use Rattle.pv_tree.specs.Legal.{is_formed, are_formed, fits_kids}
use Rattle.pv_tree.proofs.Levels.{trees-forest}
use Rattle.pv_edit.specs.Changes.{Change, in_place_of, list_after, ending_after, owner_after, change_kid, change_below, root_after}
use Rattle.pv_edit.specs.FittingChanges.{CanFill}
use Rattle.pv_edit.specs.Inverses.{is_short, ends_short}
use Rattle.pv_edit.specs.Reasons.{is_top}
use Rattle.pv_edit.proofs.Levels.{forest-trees}
use Rattle.pv_edit.proofs.NodePlaces.{KidAt, first, later, NodeAt, here, down, at_node}
use Rattle.pv_edit.proofs.DocumentAsElement.{whole, Owner, Made, top-kids, after-whole}
use Rattle.pv_edit.proofs.CutParts.{new-part, list-back, list-length}

-- The second change puts back what gave way in the first.
pub record Undoes {M : Type 0} (c d : Change M) (path : List ℕ) (ts : List (Tree M)) (ending : Ending) : Type 0 where
  pub same : d.list ≡ path
  pub from : d.from ≡ c.from
  pub to : d.to ≡ c.from + length (in_place_of c.filling (between c.from c.to ts))
  pub fits : CanFill d.filling (in_place_of c.filling (between c.from c.to ts))
  pub back : in_place_of d.filling (in_place_of c.filling (between c.from c.to ts)) ≡ between c.from c.to ts
  pub ends : ending_after d.shorten (ending_after c.shorten ending (list_after c ts)) ts ≡ ending
  pub unshort : is_top path ≡ true → d.shorten ≡ false

kid-changed : {M : Type 0} {i : ℕ} {kids : Forest M} {k : Tree M} (f : Tree M → Tree M) → KidAt i kids k → KidAt i (change_kid f i kids) (f k)
kid-changed f first = first
kid-changed f (later h) = later (kid-changed f h)

-- the node, changed
pub below-node : {M : Type 0} {path : List ℕ} {t u : Tree M} (f : Tree M → Tree M) → NodeAt path t u → NodeAt path (change_below path f t) (f u)
below-node f here = here
below-node f (down {path = path} k n) = down (kid-changed (change_below path f) k) (below-node f n)

kid-back : {M : Type 0} {i : ℕ} {kids : Forest M} {k : Tree M} (f g : Tree M → Tree M) → KidAt i kids k → g (f k) ≡ k → change_kid g i (change_kid f i kids) ≡ kids
kid-back f g (first {rest = rest}) h = ap (λ t. tree t rest) h
kid-back f g (later {t = t} q) h = ap (tree t) (kid-back f g q h)

below-back : {M : Type 0} {path : List ℕ} {t u : Tree M} (f g : Tree M → Tree M) → NodeAt path t u → g (f u) ≡ u → change_below path g (change_below path f t) ≡ t
below-back f g here h = h
below-back f g (down {path = path} {x = x} {attrs = attrs} {e = e} {m = m} k n) h =
    ap (λ kids. element x attrs e kids m) (kid-back (change_below path f) (change_below path g) k (below-back f g n h))

-- the owner, with its list changed
pub owner-changed : {M : Type 0} {m : M} (path : List ℕ) (c : Change M) (root : Tree M) (ts : List (Tree M)) → Made m path c root ts → Owner m path (root_after path c root) (list_after c ts)
owner-changed path c root ts d =
    let o = d.owner in
    record {
      name = o.name;
      attrs = o.attrs;
      ending = ending_after c.shorten o.ending (list_after c (trees_of o.kids));
      kids = forest_of (list_after c (trees_of o.kids));
      mark = o.mark;
      node = subst (λ w. NodeAt path w (element o.name o.attrs (ending_after c.shorten o.ending
          (list_after c (trees_of o.kids))) (forest_of (list_after c (trees_of o.kids))) o.mark))
          (sym (after-whole path c root ts d)) (below-node (owner_after c) o.node);
      are = trees-forest (list_after c (trees_of o.kids)) ∙ ap (list_after c) o.are;
    }

top-length : {M : Type 0} {m : M} (path : List ℕ) (root : Tree M) (ts : List (Tree M)) → Owner m path root ts → is_top path ≡ true → length ts ≡ 1
top-length [] root ts o h = ap length (top-kids o)
top-length (i ∷ path) root ts o h = absurd cc

pub back-made : {M : Type 0} {m : M} (path : List ℕ) (c d : Change M) (root : Tree M)
    (ts : List (Tree M)) (made : Made m path c root ts) → Undoes c d path ts made.owner.ending →
    Made m path d (root_after path c root) (list_after c ts)
back-made path c d root ts made u = record {
  owner = owner-changed path c root ts made;
  order = omega (arith, u.from, u.to);
  within = omega (arith, u.to, list-length c ts made.order made.within);
  fits = rw (u.from, u.to, new-part c ts made.order made.within) u.fits;
  one = λ t. ap length (list-back c d ts made.order made.within u.from u.to u.back) ∙ top-length path root ts made.owner t;
  unshort = u.unshort;
}

owner-back : {M : Type 0} (c d : Change M) (x attrs : List ℕ) (e : Ending) (kids : Forest M) (m : M) → list_after d (list_after c (trees_of kids)) ≡ trees_of kids
    → ending_after d.shorten (ending_after c.shorten e (list_after c (trees_of kids))) (trees_of kids) ≡ e → owner_after d (owner_after c (element x attrs e kids m)) ≡ element x attrs e kids m
owner-back c d x attrs e kids m l h =
    let e2 = ending_after c.shorten e (list_after c (trees_of kids)) in
    ap (λ ts. element x attrs (ending_after d.shorten e2 (list_after d ts)) (forest_of (list_after d ts)) m) (trees-forest (list_after c (trees_of kids)))
    ∙ ap (λ ts. element x attrs (ending_after d.shorten e2 ts) (forest_of ts) m) l
    ∙ ap (λ f. element x attrs (ending_after d.shorten e2 (trees_of kids)) f m) (forest-trees kids)
    ∙ ap (λ e. element x attrs e kids m) h

owner-same : {M : Type 0} {m : M} (path : List ℕ) (c d : Change M) (root : Tree M) (ts : List (Tree M)) (made : Made m path c root ts) → Undoes c d path ts made.owner.ending
    → owner_after d (owner_after c (element made.owner.name made.owner.attrs made.owner.ending
    made.owner.kids made.owner.mark)) ≡ element made.owner.name made.owner.attrs
    made.owner.ending made.owner.kids made.owner.mark
owner-same path c d root ts made u =
    let o = made.owner in
    owner-back c d o.name o.attrs o.ending o.kids o.mark
    (subst (λ l. list_after d (list_after c l) ≡ l) (sym o.are) (list-back c d ts made.order made.within u.from u.to u.back))
    (subst (λ l. ending_after d.shorten (ending_after c.shorten o.ending (list_after c l)) l ≡ o.ending) (sym o.are) u.ends)

same-root : {M : Type 0} (m : M) (t u : Tree M) → whole m t ≡ whole m u → t ≡ u
same-root m t u h = cc

pub root-back : {M : Type 0} {m : M} (path : List ℕ) (c d : Change M) (root : Tree M)
    (ts : List (Tree M)) (made : Made m path c root ts) → Undoes c d path ts made.owner.ending →
    root_after path d (root_after path c root) ≡ root
root-back {m = m} path c d root ts made u =
    same-root m (root_after path d (root_after path c root)) root
    (after-whole path d (root_after path c root) (list_after c ts) (back-made path c d root ts made u)
    ∙ ap (change_below path (owner_after d)) (after-whole path c root ts made)
    ∙ below-back (owner_after c) (owner_after d) made.owner.node (owner-same path c d root ts made u))

-- how the owner ends
pub short-owner : {M : Type 0} {m : M} (path : List ℕ) (root : Tree M) (ts : List (Tree M)) (o : Owner m path root ts) → ends_short (spot_at path root) ≡ is_short o.ending
short-owner [] root ts o = let h = at_node o.node in let e : tagged [] ≡ o.ending = cc in ap is_short e
short-owner (zero ∷ path) root ts o =
    let e : node_below path root ≡ Some (element o.name o.attrs o.ending o.kids o.mark) = at_node o.node in
    ap (λ n. ends_short (option_map at_spot n)) e
short-owner (suc i ∷ path) root ts o = let h = at_node o.node in absurd cc

pub ends-same : {M : Type 0} (e : Ending) (ts us : List (Tree M)) → ending_after (is_short e) (ending_after false e ts) us ≡ e
ends-same short ts us = refl
ends-same (tagged gap) ts us = refl

pub top-unshort : {M : Type 0} (path : List ℕ) (root : Tree M) → is_top path ≡ true → ends_short (spot_at path root) ≡ false
top-unshort [] root h = refl
top-unshort (i ∷ path) root h = absurd cc

formed-kid : {M : Type 0} {i : ℕ} {kids : Forest M} {k : Tree M} → KidAt i kids k → are_formed kids ≡ true → is_formed k ≡ true
formed-kid (first {t = t} {rest = rest}) h = (and_parts (is_formed t) (are_formed rest) h).0
formed-kid (later {t = t} {rest = rest} q) h = formed-kid q (and_parts (is_formed t) (are_formed rest) h).1

formed-node : {M : Type 0} {path : List ℕ} {t u : Tree M} → NodeAt path t u → is_formed t ≡ true → is_formed u ≡ true
formed-node here h = h
formed-node (down {e = e} {kids = kids} k n) h = formed-node n (formed-kid k (and_parts (fits_kids e kids) (are_formed kids) h).1)

formed-owner : {M : Type 0} {m : M} {path : List ℕ} {root : Tree M} {ts : List (Tree M)} (o : Owner m path root ts) → is_formed root ≡ true → fits_kids o.ending o.kids ≡ true
formed-owner {root = root} o h = (and_parts (fits_kids o.ending o.kids) (are_formed o.kids) (formed-node o.node (and_from (is_formed root) true h refl))).0

ends-kept : {M : Type 0} (e : Ending) (kids : Forest M) (ts us : List (Tree M)) →
    fits_kids e kids ≡ true → trees_of kids ≡ ts → (i : ℕ) → i < length ts →
    ending_after false (ending_after false e us) ts ≡ e
ends-kept short no_trees ts us f a i h = let n = ap length a in absurd (omega arith)
ends-kept short (tree t rest) ts us f a i h = absurd cc
ends-kept (tagged gap) kids ts us f a i h = refl

pub ends-owner : {M : Type 0} {m : M} {path : List ℕ} {root : Tree M} {ts : List (Tree M)}
    (o : Owner m path root ts) (us : List (Tree M)) → is_formed root ≡ true → (i : ℕ) →
    i < length ts → ending_after false (ending_after false o.ending us) ts ≡ o.ending
ends-owner {ts = ts} o us f i h = ends-kept o.ending o.kids ts us (formed-owner o f) o.are i h
