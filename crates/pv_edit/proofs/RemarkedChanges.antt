-- Changes of a tree whatever its marks are.
use Rattle.std.proofs.Common.{◌≡◌, ◌∙◌, ap, sym, refl, ℕ, zero, suc, ◌-◌, ◌≤◌, Bool, true, false, not, List, [], ◌∷◌, ◌++◌, length, take, drop, map, Option, Some, None, slice_get, subst}
use Rattle.std.specs.Prelude.{IsSomeAnd}
use Rattle.std.specs.List.{between}
use Rattle.std.specs.Option.{option_map, option_and_then}
use Rattle.std.proofs.lemmas.List.{length-map, map-append, take-map, drop-map}
use Rattle.std.proofs.lemmas.Option.{slice_get-map}
use Rattle.pv_tree.specs.Plain.{Ending, short, tagged, Tree, element, text_node, cdata_node, misc_node, Forest, no_trees, tree, forest_of, trees_of, is_element, map_marks, map_marks_all}
use Rattle.pv_tree.specs.Places.{Spot, at_document, kids_of, node_below, spot_at}
use Rattle.pv_tree.specs.Places.{at_node as at_spot}
use Rattle.pv_edit.specs.Changes.{Change, Filling, others, around, inner, named, with_name, all_kids, in_place_of, list_after, ending_after}
use Rattle.pv_edit.specs.Changes.{with_list, owner_after, change_kid, change_below, first_tree, root_after}
use Rattle.pv_edit.specs.Effects.{next_of, units_on, units_at}
use Rattle.pv_edit.specs.FittingChanges.{CanFill, SuitsChange, TakesChange, CanChange}
use Rattle.pv_edit.specs.Inverses.{change_back}
use Rattle.pv_edit.specs.Reasons.{is_one_element, is_spot, is_text, lacks_text}
use Rattle.pv_edit.specs.declared.inverses.Inverse.{Inverse}
use Rattle.pv_edit.specs.declared.inverses.Inverse.TheVariants.{TakeOut, PutBack, Name, Merge, Divide, Text, Discard, Restore}

abbrev pub filling_as : {M N : Type 0} → (M → N) → Filling M → Filling N
filling_as f (others trees) = others (map (map_marks f) trees)
filling_as f (around name attrs ending mark) = around name attrs ending (f mark)
filling_as f inner = inner
filling_as f (named name) = named name

-- the change with other marks
abbrev pub change_as : {M N : Type 0} → (M → N) → Change M → Change N
change_as f c = record { list = c.list; from = c.from; to = c.to; filling = filling_as f c.filling; shorten = c.shorten }

abbrev pub spot_as : {M N : Type 0} → (M → N) → Spot M → Spot N
spot_as f at_document = at_document
spot_as f (at_spot t) = at_spot (map_marks f t)

pub trees-as : {M N : Type 0} (f : M → N) (kids : Forest M) → trees_of (map_marks_all f kids) ≡ map (map_marks f) (trees_of kids)
trees-as f no_trees = refl
trees-as f (tree t rest) = ap (λ l. map_marks f t ∷ l) (trees-as f rest)

pub forest-as : {M N : Type 0} (f : M → N) (ts : List (Tree M)) → forest_of (map (map_marks f) ts) ≡ map_marks_all f (forest_of ts)
forest-as f [] = refl
forest-as f (t ∷ ts) = ap (tree (map_marks f t)) (forest-as f ts)

kids-as : {M N : Type 0} (f : M → N) (t : Tree M) → kids_of (map_marks f t) ≡ map (map_marks f) (kids_of t)
kids-as f (element x attrs e kids m) = trees-as f kids
kids-as f (text_node units) = refl
kids-as f (cdata_node bytes) = refl
kids-as f (misc_node bytes) = refl

pub node-as : {M N : Type 0} (f : M → N) (path : List ℕ) (t : Tree M) → node_below path (map_marks f t) ≡ option_map (map_marks f) (node_below path t)
node-as f [] t = refl
node-as f (i ∷ path) t =
    ap (λ l. option_and_then (node_below path) (slice_get l i)) (kids-as f t) ∙ ap (option_and_then (node_below path)) (slice_get-map (map_marks f) (kids_of t) i)
    ∙ elim (slice_get (kids_of t) i) as (λ o. option_and_then (node_below path)
    (option_map (map_marks f) o) ≡ option_map (map_marks f) (option_and_then (node_below path)
    o)) [ None ↦ refl | Some u ↦ node-as f path u ]

spot-of : {M N : Type 0} (f : M → N) (o : Option (Tree M)) → option_map at_spot (option_map (map_marks f) o) ≡ option_map (spot_as f) (option_map at_spot o)
spot-of f None = refl
spot-of f (Some t) = refl

pub spot-as : {M N : Type 0} (f : M → N) (path : List ℕ) (root : Tree M) → spot_at path (map_marks f root) ≡ option_map (spot_as f) (spot_at path root)
spot-as f [] root = refl
spot-as f (zero ∷ path) root = ap (option_map at_spot) (node-as f path root) ∙ spot-of f (node_below path root)
spot-as f (suc i ∷ path) root = refl

units-on-as : {M N : Type 0} (f : M → N) (o : Option (Spot M)) → units_on (option_map (spot_as f) o) ≡ units_on o
units-on-as f None = refl
units-on-as f (Some at_document) = refl
units-on-as f (Some (at_spot (element x attrs e kids m))) = refl
units-on-as f (Some (at_spot (text_node units))) = refl
units-on-as f (Some (at_spot (cdata_node bytes))) = refl
units-on-as f (Some (at_spot (misc_node bytes))) = refl

pub units-as : {M N : Type 0} (f : M → N) (path : List ℕ) (root : Tree M) → units_at path (map_marks f root) ≡ units_at path root
units-as f path root = ap units_on (spot-as f path root) ∙ units-on-as f (spot_at path root)

text-on-as : {M N : Type 0} (f : M → N) (o : Option (Spot M)) → is_spot is_text (option_map (spot_as f) o) ≡ is_spot is_text o
text-on-as f None = refl
text-on-as f (Some at_document) = refl
text-on-as f (Some (at_spot (element x attrs e kids m))) = refl
text-on-as f (Some (at_spot (text_node units))) = refl
text-on-as f (Some (at_spot (cdata_node bytes))) = refl
text-on-as f (Some (at_spot (misc_node bytes))) = refl

pub text-as : {M N : Type 0} (f : M → N) (path : List ℕ) (root : Tree M) → lacks_text path (map_marks f root) ≡ lacks_text path root
text-as f path root = ap not (ap (is_spot is_text) (spot-as f path root) ∙ text-on-as f (spot_at path root))

pub element-as : {M N : Type 0} (f : M → N) (t : Tree M) → is_element (map_marks f t) ≡ is_element t
element-as f (element x attrs e kids m) = refl
element-as f (text_node units) = refl
element-as f (cdata_node bytes) = refl
element-as f (misc_node bytes) = refl

pub one-as : {M N : Type 0} (f : M → N) (ts : List (Tree M)) → is_one_element (map (map_marks f) ts) ≡ is_one_element ts
one-as f [] = refl
one-as f (t ∷ []) = element-as f t
one-as f (t ∷ u ∷ ts) = refl

all-kids-as : {M N : Type 0} (f : M → N) (ts : List (Tree M)) → all_kids (map (map_marks f) ts) ≡ map (map_marks f) (all_kids ts)
all-kids-as f [] = refl
all-kids-as f (t ∷ ts) = ap (λ l. l ++ all_kids (map (map_marks f) ts)) (kids-as f t)
    ∙ ap (λ l. map (map_marks f) (kids_of t) ++ l) (all-kids-as f ts)
    ∙ sym (map-append (map_marks f) (kids_of t) (all_kids ts))

name-as : {M N : Type 0} (f : M → N) (name : List ℕ) (t : Tree M) → with_name name (map_marks f t) ≡ map_marks f (with_name name t)
name-as f name (element x attrs e kids m) = refl
name-as f name (text_node units) = refl
name-as f name (cdata_node bytes) = refl
name-as f name (misc_node bytes) = refl

names-as : {M N : Type 0} (f : M → N) (name : List ℕ) (ts : List (Tree M)) → map (with_name name) (map (map_marks f) ts) ≡ map (map_marks f) (map (with_name name) ts)
names-as f name [] = refl
names-as f name (t ∷ ts) = ap (λ u. u ∷ map (with_name name) (map (map_marks f) ts)) (name-as f name t) ∙ ap (λ l. map_marks f (with_name name t) ∷ l) (names-as f name ts)

in-place-as : {M N : Type 0} (f : M → N) (g : Filling M) (ts : List (Tree M)) → in_place_of (filling_as f g) (map (map_marks f) ts) ≡ map (map_marks f) (in_place_of g ts)
in-place-as f (others trees) ts = refl
in-place-as f (around name attrs ending mark) ts = ap (λ k. element name attrs ending k (f mark) ∷ []) (forest-as f ts)
in-place-as f inner ts = all-kids-as f ts
in-place-as f (named name) ts = names-as f name ts

between-as : {M N : Type 0} (f : M → N) (from to : ℕ) (ts : List (Tree M)) → between from to (map (map_marks f) ts) ≡ map (map_marks f) (between from to ts)
between-as f from to ts = ap (take (to - from)) (drop-map (map_marks f) from ts) ∙ take-map (map_marks f) (to - from) (drop from ts)

pub list-as : {M N : Type 0} (f : M → N) (c : Change M) (ts : List (Tree M)) → list_after (change_as f c) (map (map_marks f) ts) ≡ map (map_marks f) (list_after c ts)
list-as f c ts =
    let new = in_place_of c.filling (between c.from c.to ts) in
    let n : in_place_of (filling_as f c.filling) (between c.from c.to (map (map_marks f) ts))
    ≡ map (map_marks f) new = ap (in_place_of (filling_as f c.filling))
    (between-as f c.from c.to ts) ∙ in-place-as f c.filling (between c.from c.to ts) in
    ap (λ l. l ++ (in_place_of (filling_as f c.filling) (between c.from c.to (map (map_marks f) ts)) ++ drop c.to (map (map_marks f) ts))) (take-map (map_marks f) c.from ts)
    ∙ ap (λ l. map (map_marks f) (take c.from ts) ++ (l ++ drop c.to (map (map_marks f) ts))) n
    ∙ ap (λ l. map (map_marks f) (take c.from ts) ++ (map (map_marks f) new ++ l)) (drop-map (map_marks f) c.to ts)
    ∙ ap (λ l. map (map_marks f) (take c.from ts) ++ l) (sym (map-append (map_marks f) new (drop c.to ts)))
    ∙ sym (map-append (map_marks f) (take c.from ts) (new ++ drop c.to ts))

ending-as : {M N : Type 0} (f : M → N) (b : Bool) (e : Ending) (ts : List (Tree M)) → ending_after b e (map (map_marks f) ts) ≡ ending_after b e ts
ending-as f true e ts = refl
ending-as f false short [] = refl
ending-as f false short (t ∷ ts) = refl
ending-as f false (tagged gap) ts = refl

with-list-as : {M N : Type 0} (f : M → N) (b : Bool) (ts : List (Tree M)) (t : Tree M) → with_list b (map (map_marks f) ts) (map_marks f t) ≡ map_marks f (with_list b ts t)
with-list-as f b ts (element x attrs e kids m) =
    ap (λ k. element x attrs k (forest_of (map (map_marks f) ts)) (f m)) (ending-as f b e ts)
    ∙ ap (λ k. element x attrs (ending_after b e ts) k (f m)) (forest-as f ts)
with-list-as f b ts (text_node units) = refl
with-list-as f b ts (cdata_node bytes) = refl
with-list-as f b ts (misc_node bytes) = refl

owner-as : {M N : Type 0} (f : M → N) (c : Change M) (t : Tree M) → owner_after (change_as f c) (map_marks f t) ≡ map_marks f (owner_after c t)
owner-as f c t = ap (λ l. with_list c.shorten (list_after (change_as f c) l) (map_marks f t))
    (kids-as f t) ∙ ap (λ l. with_list c.shorten l (map_marks f t)) (list-as f c (kids_of t))
    ∙ with-list-as f c.shorten (list_after c (kids_of t)) t

kid-as : {M N : Type 0} (f : M → N) (g : Tree M → Tree M) (h : Tree N →
    Tree N) (i : ℕ) (kids : Forest M) → ((t : Tree M) → h (map_marks f t) ≡ map_marks f (g t)) →
    change_kid h i (map_marks_all f kids) ≡ map_marks_all f (change_kid g i kids)
kid-as f g h i no_trees s = refl
kid-as f g h zero (tree t rest) s = ap (λ u. tree u (map_marks_all f rest)) (s t)
kid-as f g h (suc i) (tree t rest) s = ap (tree (map_marks f t)) (kid-as f g h i rest s)

below-as : {M N : Type 0} (f : M → N) (path : List ℕ) (g : Tree M → Tree M) (h : Tree N →
    Tree N) (t : Tree M) → ((u : Tree M) → h (map_marks f u) ≡ map_marks f (g u)) →
    change_below path h (map_marks f t) ≡ map_marks f (change_below path g t)
below-as f [] g h t s = s t
below-as f (i ∷ path) g h (element x attrs e kids m) s =
    ap (λ k. element x attrs e k (f m)) (kid-as f (change_below path g) (change_below path h) i kids (λ u. below-as f path g h u s))
below-as f (i ∷ path) g h (text_node units) s = refl
below-as f (i ∷ path) g h (cdata_node bytes) s = refl
below-as f (i ∷ path) g h (misc_node bytes) s = refl

first-as : {M N : Type 0} (f : M → N) (t : Tree M) (ts : List (Tree M)) → first_tree (map_marks f t) (map (map_marks f) ts) ≡ map_marks f (first_tree t ts)
first-as f t [] = refl
first-as f t (u ∷ ts) = refl

pub root-as : {M N : Type 0} (f : M → N) (path : List ℕ) (c : Change M) (root : Tree M) → root_after path (change_as f c) (map_marks f root) ≡ map_marks f (root_after path c root)
root-as f [] c root = ap (first_tree (map_marks f root)) (list-as f c (root ∷ [])) ∙ first-as f root (list_after c (root ∷ []))
root-as f (i ∷ path) c root = below-as f path (owner_after c) (owner_after (change_as f c)) root (owner-as f c)

-- ---- where a change can be made
fits-as : {M N : Type 0} (f : M → N) (g : Filling M) (ts : List (Tree M)) → CanFill (filling_as f g) (map (map_marks f) ts) → CanFill g ts
fits-as f (others trees) ts h = tt
fits-as f (around name attrs ending mark) ts h = tt
fits-as f inner ts h = sym (one-as f ts) ∙ h
fits-as f (named name) ts h = sym (one-as f ts) ∙ h

suits-as : {M N : Type 0} (f : M → N) (c : Change M) (ts : List (Tree M)) → SuitsChange (change_as f c) (map (map_marks f) ts) → SuitsChange c ts
suits-as f c ts s = record {
  order = s.order;
  within = subst (λ n. c.to ≤ n)
      (length-map ts (map_marks f)) s.within;
  fits = fits-as f c.filling (between c.from c.to ts)
      (subst (λ l. CanFill (filling_as f c.filling) l) (between-as f c.from c.to ts) s.fits);
}

takes-as : {M N : Type 0} (f : M → N) (c : Change M) (o : Option (Tree M)) → IsSomeAnd (option_map (map_marks f) o) (TakesChange (change_as f c)) → IsSomeAnd o (TakesChange c)
takes-as f c None h = h
takes-as f c (Some t) h = record { elem = sym (element-as f t) ∙ h.elem; suits = suits-as f c (kids_of t) (subst (λ l. SuitsChange (change_as f c) l) (kids-as f t) h.suits) }

pub can-as : {M N : Type 0} (f : M → N) (path : List ℕ) (c : Change M) (root : Tree M) → CanChange path (change_as f c) (map_marks f root) → CanChange path c root
can-as f [] c root h = record { suits = suits-as f c (root ∷ []) h.suits; one = sym (length-map (list_after c (root ∷ [])) (map_marks f)) ∙ ap length (sym (list-as f c (root ∷ []))) ∙ h.one }
can-as f (zero ∷ path) c root h = takes-as f c (node_below path root) (subst (λ o. IsSomeAnd o (TakesChange (change_as f c))) (node-as f path root) h)
can-as f (suc i ∷ path) c root h = h

-- ---- the change of an inverse
pub back-as : {M N : Type 0} (f : M → N) (blank : M) (root : Tree M) (inverse : Inverse) → change_as f (change_back blank root inverse) ≡ change_back (f blank) (map_marks f root) inverse
back-as f blank root (TakeOut path shorten) = refl
back-as f blank root (PutBack path from to name attrs e) = refl
back-as f blank root (Name path name) = refl
back-as f blank root (Merge path) = rw (units-as f path root, units-as f (next_of path) root) refl
back-as f blank root (Divide path at) = rw (units-as f path root) refl
back-as f blank root (Text path units) = refl
back-as f blank root (Discard path shorten) = refl
back-as f blank root (Restore path units) = refl
