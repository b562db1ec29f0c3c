-- Where nodes stand in a tree, as relations.
use Rattle.std.proofs.Common.{◌≡◌, ℕ, zero, suc, List, [], ◌∷◌, Some, None, slice_get, refl, ap, ◌∙◌, subst}
use Rattle.std.specs.Option.{option_and_then}
use Rattle.pv_tree.specs.Plain.{Ending, Tree, element, text_node, cdata_node, misc_node, Forest, no_trees, tree, trees_of}
use Rattle.pv_tree.specs.Places.{node_below}

-- a kid at a place
pub data KidAt {M : Type 0} : ℕ → Forest M → Tree M → Type 0 where
  first : {t : Tree M} {rest : Forest M} → KidAt zero (tree t rest) t
  later : {i : ℕ} {t k : Tree M} {rest : Forest M} → KidAt i rest k → KidAt (suc i) (tree t rest) k

-- a node at a path
pub data NodeAt {M : Type 0} : List ℕ → Tree M → Tree M → Type 0 where
  here : {t : Tree M} → NodeAt [] t t
  down : {i : ℕ} {path x attrs : List ℕ} {e : Ending} {kids : Forest M} {m : M} {k u : Tree M} → KidAt i kids k → NodeAt path k u → NodeAt (i ∷ path) (element x attrs e kids m) u

pub kid_at : {M : Type 0} (i : ℕ) (kids : Forest M) (k : Tree M) → slice_get (trees_of kids) i ≡ Some k → KidAt i kids k
kid_at i no_trees k h = absurd cc
kid_at zero (tree t rest) k h = let e : t ≡ k = cc in subst (λ u. KidAt zero (tree t rest) u) e first
kid_at (suc i) (tree t rest) k h = later (kid_at i rest k h)

pub at_kid : {M : Type 0} {i : ℕ} {kids : Forest M} {k : Tree M} → KidAt i kids k → slice_get (trees_of kids) i ≡ Some k
at_kid first = refl
at_kid (later h) = at_kid h

pub node_at : {M : Type 0} (path : List ℕ) (t u : Tree M) → node_below path t ≡ Some u → NodeAt path t u
node_at [] t u h = let e : t ≡ u = cc in subst (λ v. NodeAt [] t v) e here
node_at (i ∷ path) (element x attrs e kids m) u h =
    elim (slice_get (trees_of kids) i) as (λ o. slice_get (trees_of kids) i ≡ o → option_and_then (node_below path) o ≡ Some u → NodeAt (i ∷ path) (element x attrs e kids m) u)
    [ None ↦ λ s n. absurd cc | Some k ↦ λ s n. down (kid_at i kids k s) (node_at path k u n) ] refl h
node_at (i ∷ path) (text_node units) u h = absurd cc
node_at (i ∷ path) (cdata_node bytes) u h = absurd cc
node_at (i ∷ path) (misc_node bytes) u h = absurd cc

pub at_node : {M : Type 0} {path : List ℕ} {t u : Tree M} → NodeAt path t u → node_below path t ≡ Some u
at_node here = refl
at_node (down {path = path} k n) = ap (option_and_then (node_below path)) (at_kid k) ∙ at_node n
