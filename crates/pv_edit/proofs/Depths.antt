-- How deep a tree is after a change.
use Rattle.std.proofs.Common.{◌≡◌, ℕ, suc, ◌+◌, ◌≤◌, max, List, [], ◌∷◌, ◌++◌, length, take, drop, ap, arith}
use Rattle.std.proofs.lemmas.List.Edits.{split_between}
use Rattle.std.specs.List.{between, splice}
use Rattle.pv_tree.specs.Plain.{Tree, Forest, forest_of, depth_of, depth_of_all}
use Rattle.pv_edit.specs.Changes.{change_kid, change_below}
use Rattle.pv_edit.proofs.NodePlaces.{KidAt, first, later, NodeAt, here, down}

-- the greater of what stays, no greater than before, and of what changes
pub record IsDeeper (old new changed : ℕ) : Type 0 where
  pub rest : ℕ
  pub below : rest ≤ old
  pub is : new ≡ max rest changed

kid-deeper : {M : Type 0} {i : ℕ} {kids : Forest M} {k : Tree M} (f : Tree M → Tree M) → KidAt i kids k → IsDeeper (depth_of_all kids) (depth_of_all (change_kid f i kids)) (depth_of (f k))
kid-deeper f (first {t = t} {rest = rest}) = record { rest = depth_of_all rest; below = omega arith; is = omega arith }
kid-deeper f (later {t = t} h) = let d = kid-deeper f h in record { rest = max (depth_of t) d.rest; below = omega (arith, d.below); is = omega (arith, d.is) }

pub kid-depth : {M : Type 0} {i : ℕ} {kids : Forest M} {k : Tree M} → KidAt i kids k → depth_of k ≤ depth_of_all kids
kid-depth first = omega arith
kid-depth (later h) = omega (arith, kid-depth h)

pub deeper : {M : Type 0} {path : List ℕ} {t u : Tree M} (f : Tree M → Tree M) → NodeAt path t u → IsDeeper (depth_of t) (depth_of (change_below path f t)) (length path + depth_of (f u))
deeper f here = record { rest = 0; below = omega arith; is = omega arith }
deeper f (down {path = path} k n) =
    let a = kid-deeper (change_below path f) k in
    let b = deeper f n in
    record { rest = suc (max a.rest b.rest); below = omega (arith, a.below, b.below, kid-depth k); is = omega (arith, a.is, b.is) }

pub node-depth : {M : Type 0} {path : List ℕ} {t u : Tree M} → NodeAt path t u → length path + depth_of u ≤ depth_of t
node-depth here = omega arith
node-depth (down k n) = omega (arith, kid-depth k, node-depth n)

pub depth-append : {M : Type 0} (xs ys : List (Tree M)) → depth_of_all (forest_of (xs ++ ys)) ≡ max (depth_of_all (forest_of xs)) (depth_of_all (forest_of ys))
depth-append [] ys = omega arith
depth-append (x ∷ xs) ys = omega (arith, depth-append xs ys)

-- of a list that is spliced
pub splice-deeper : {M : Type 0} (ts new : List (Tree M)) (from to : ℕ) → from ≤ to →
    IsDeeper (depth_of_all (forest_of ts)) (depth_of_all (forest_of (splice ts from to new)))
    (depth_of_all (forest_of new))
splice-deeper ts new from to h =
    let whole = ap (λ l. depth_of_all (forest_of l)) (split_between ts from to h) in
    let a = depth-append (take from ts) (between from to ts ++ drop to ts) in
    let b = depth-append (between from to ts) (drop to ts) in
    let c = depth-append (take from ts) (new ++ drop to ts) in
    let d = depth-append new (drop to ts) in
    record { rest = max (depth_of_all (forest_of (take from ts))) (depth_of_all (forest_of (drop to ts))); below = omega (arith, whole, a, b); is = omega (arith, c, d) }

pub middle-depth : {M : Type 0} (ts : List (Tree M)) (from to : ℕ) → from ≤ to → depth_of_all (forest_of (between from to ts)) ≤ depth_of_all (forest_of ts)
middle-depth ts from to h =
    let whole = ap (λ l. depth_of_all (forest_of l)) (split_between ts from to h) in
    omega (arith, whole, depth-append (take from ts) (between from to ts ++ drop to ts), depth-append (between from to ts) (drop to ts))
