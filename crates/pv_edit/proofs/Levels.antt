-- One level of a change in a tree.
use Rattle.std.proofs.Common.{◌≡◌, ℕ, zero, suc, ◌+◌, ◌-◌, ◌<◌, ◌≤◌, List, [], ◌∷◌, ◌++◌, length, take, drop, get_or, Option, Some, None, slice_get}
use Rattle.std.proofs.Common.{slice_set, sym, ap, ◌∙◌, arith, refl, subst}
use Rattle.std.specs.Prelude.{IsSomeAnd, Result, Ok, Err, OnErr}
use Rattle.std.specs.Option.{option_map, option_and_then}
use Rattle.std.proofs.Math.ListN.{get_or-map}
use Rattle.std.proofs.lemmas.Option.{slice_get-map, slice_get_within, get_or_from_slice_get}
use Rattle.std.proofs.lemmas.Grind.{common_steps}
use Rattle.std.proofs.lemmas.List.{map-set, length-map, length-append}
use Rattle.pv_tree.specs.Plain.{Tree, element, text_node, cdata_node, misc_node, Forest, no_trees}
use Rattle.pv_tree.specs.Plain.{tree, forest_of, trees_of}
use Rattle.pv_tree.specs.Places.{kids_of, node_below}
use Rattle.pv_tree.specs.PlainForms.{plain, plain_all}
use Rattle.pv_tree.specs.declared.nodes.Mark.{Mark}
use Rattle.pv_tree.specs.declared.nodes.Node.{Node}
use Rattle.pv_edit.specs.Changes.{change_kid, change_below, first_tree}
use Rattle.pv_edit.specs.FittingChanges.{if_made, with_kids}

pub forest-trees : {M : Type 0} (f : Forest M) → forest_of (trees_of f) ≡ f
forest-trees no_trees = refl
forest-trees (tree t rest) = ap (tree t) (forest-trees rest)

with_kids-twice : {M : Type 0} (t : Tree M) (xs ys : List (Tree M)) → with_kids ys (with_kids xs t) ≡ with_kids ys t
with_kids-twice (element x attrs e k m) xs ys = refl
with_kids-twice (text_node u) xs ys = refl
with_kids-twice (cdata_node u) xs ys = refl
with_kids-twice (misc_node u) xs ys = refl

-- kids put back where they were taken out
pub put_back : {M : Type 0} (t u v : Tree M) (ls : List (Tree M)) → u ≡ with_kids [] t → v ≡ with_kids ls u → v ≡ with_kids ls t
put_back t u v ls f h = h ∙ ap (with_kids ls) f ∙ with_kids-twice t [] ls

-- a path's first place and the rest, as the code sees them
pub path-split : (path : List ℕ) → 1 ≤ length path → path ≡ get_or path 0 0 ∷ take (length path - 1) (drop 1 path)
path-split [] h = absurd (omega arith)
path-split (i ∷ rest) h = grind (arith, common_steps)

-- one kid changed, among others
kid_changed : {M : Type 0} (f : Tree M → Tree M) (i : ℕ) (ts : List (Tree M)) (d : Tree M) → i < length ts → change_kid f i (forest_of ts) ≡ forest_of (slice_set ts i (f (get_or ts i d)))
kid_changed f i [] d h = absurd (omega arith)
kid_changed f zero (t ∷ ts) d h = refl
kid_changed f (suc i) (t ∷ ts) d h = ap (tree t) (kid_changed f i ts d (omega arith))

step_changed : {M : Type 0} (path : List ℕ) (f : Tree M → Tree M) (i : ℕ) (t d : Tree M) →
    i < length (kids_of t) →
    with_kids (slice_set (kids_of t) i (change_below path f (get_or (kids_of t) i d))) t
    ≡ change_below (i ∷ path) f t
step_changed path f i (element x attrs e k m) d h = ap (λ l. element x attrs e l m)
    (sym (kid_changed (change_below path f) i (trees_of k) d h)
    ∙ ap (change_kid (change_below path f) i) (forest-trees k))
step_changed path f i (text_node u) d h = absurd (omega arith)
step_changed path f i (cdata_node u) d h = absurd (omega arith)
step_changed path f i (misc_node u) d h = absurd (omega arith)

-- a change below, put back
below_changed : (path : List ℕ) (f : Tree Mark → Tree Mark) (i : ℕ) (t : Tree Mark) (ks : List Node)
    (d kid : Node) → plain_all ks ≡ kids_of t → i < length ks →
    plain kid ≡ change_below path f (plain (get_or ks i d))
    → with_kids (plain_all (slice_set ks i kid)) t ≡ change_below (i ∷ path) f t
below_changed path f i t ks d kid e h k =
    let within : i < length (kids_of t) = omega (arith, ap length e, length-map ks plain) in
    ap (λ l. with_kids l t) (map-set plain ks i kid ∙ ap (slice_set (plain_all ks) i) (k ∙ ap (change_below path f) (sym (get_or-map plain ks i d))))
    ∙ ap (λ l. with_kids (slice_set l i (change_below path f (get_or l i (plain d)))) t) e
    ∙ step_changed path f i t (plain d) within

pub first_changed : (path : List ℕ) (f : Tree Mark → Tree Mark) (t : Tree Mark) (ks : List Node) (old kid : Node) → 1 ≤ length path → plain_all ks ≡ kids_of t → get_or path 0 0 < length ks
    → old ≡ get_or ks (get_or path 0 0) old → plain kid ≡ change_below (take (length path - 1) (drop 1 path)) f (plain old)
    → with_kids (plain_all (slice_set ks (get_or path 0 0) kid)) t ≡ change_below path f t
first_changed path f t ks old kid n e h o k =
    below_changed (take (length path - 1) (drop 1 path)) f (get_or path 0 0) t ks old kid e h (k ∙ ap (λ (x : Node). change_below (take (length path - 1) (drop 1 path)) f (plain x)) o)
    ∙ ap (λ (q : List ℕ). change_below q f t) (sym (path-split path n))

-- the kids that were taken out, put back
pub kids_again : {M : Type 0} (t u v : Tree M) (ls : List (Tree M)) → ls ≡ kids_of t →
    u ≡ with_kids [] t → v ≡ with_kids ls u → v ≡ t
kids_again (element x attrs e k m) u v ls l f h =
    put_back (element x attrs e k m) u v ls f h
    ∙ ap (λ i. element x attrs e (forest_of i) m) l
    ∙ ap (λ i. element x attrs e i m) (forest-trees k)
kids_again (text_node units) u v ls l f h = put_back (text_node units) u v ls f h
kids_again (cdata_node bytes) u v ls l f h = put_back (cdata_node bytes) u v ls f h
kids_again (misc_node bytes) u v ls l f h = put_back (misc_node bytes) u v ls f h

-- a tree of which nothing below was changed
kid-same : {M : Type 0} (f : Tree M → Tree M) → ((t : Tree M) → f t ≡ t) → (i : ℕ)
    (kids : Forest M) → change_kid f i kids ≡ kids
kid-same f s i no_trees = refl
kid-same f s zero (tree t rest) = ap (λ u. tree u rest) (s t)
kid-same f s (suc i) (tree t rest) = ap (tree t) (kid-same f s i rest)

below-same : {M : Type 0} (path : List ℕ) (t : Tree M) → change_below path (λ u. u) t ≡ t
below-same [] t = refl
below-same (i ∷ path) (element x attrs e k m) =
    ap (λ l. element x attrs e l m) (kid-same (change_below path (λ u. u)) (below-same path) i k)
below-same (i ∷ path) (text_node u) = refl
below-same (i ∷ path) (cdata_node u) = refl
below-same (i ∷ path) (misc_node u) = refl

-- what is left without memory
pub same_unless_made : {T E M : Type 0} (r : Result T E) (path : List ℕ) (f : Tree M → Tree M)
    (t u : Tree M) → u ≡ change_below path (if_made r f) t → OnErr r (u ≡ t)
same_unless_made (Ok made) path f t u h = tt
same_unless_made (Err e) path f t u h = h ∙ below-same path t

-- what stands below
spot_in : (path : List ℕ) (P : Tree Mark → Type 0) (i : ℕ) (ks : List Node) (o : Option Node) → slice_get ks i ≡ o → IsSomeAnd (option_and_then (node_below path) (option_map plain o)) P
    → (d : Node) → (i < length ks) × IsSomeAnd (node_below path (plain (get_or ks i d))) P
spot_in path P i ks None e h d = absurd h
spot_in path P i ks (Some k) e h d = (slice_get_within ks i k e, rw (get_or_from_slice_get ks i k d e) h)

spot_below : (path : List ℕ) (P : Tree Mark → Type 0) (i : ℕ) (t : Tree Mark) (ks : List Node) (d : Node) → plain_all ks ≡ kids_of t → IsSomeAnd (node_below (i ∷ path) t) P
    → (i < length ks) × IsSomeAnd (node_below path (plain (get_or ks i d))) P
spot_below path P i t ks d e h = spot_in path P i ks (slice_get ks i) refl (rw (← slice_get-map plain ks i, e) h) d

pub first_spot : (path : List ℕ) (P : Tree Mark → Type 0) (t : Tree Mark) (ks : List Node) (d : Node) → 1 ≤ length path → plain_all ks ≡ kids_of t → IsSomeAnd (node_below path t) P
    → (get_or path 0 0 < length ks) × IsSomeAnd (node_below (take (length path - 1) (drop 1 path)) (plain (get_or ks (get_or path 0 0) d))) P
first_spot path P t ks d n e h =
    spot_below _ P (get_or path 0 0) t ks d e (subst (λ (q : List ℕ). IsSomeAnd (node_below q t) P) (path-split path n) h)

too_many : (b : Node) (bs : List Node) (first : Node) (ts : List (Tree Mark)) → plain_all ((b ∷ bs) ++ first ∷ []) ≡ ts → length ts ≡ 1 → ⊥
too_many b bs first ts e n = let m : length (plain_all (bs ++ first ∷ [])) ≡ length bs + 1 = simp (length-map, length-append) (omega arith) in omega (arith, m, ap length e)

-- the only tree of a list
pub top_first : (root : Tree Mark) (items before : List Node) (first : Node)
    (ts : List (Tree Mark)) → items ≡ before ++ first ∷ [] → plain_all items ≡ ts → length ts ≡ 1 →
    plain first ≡ first_tree root ts
top_first root items [] first ts s p n = ap (first_tree root) (sym (ap plain_all s) ∙ p)
top_first root items (b ∷ bs) first ts s p n = absurd (too_many b bs first ts (sym (ap plain_all s) ∙ p) n)
