-- What holds of each list of nodes side by side.
use Rattle.std.proofs.Common.{ℕ, ◌≤◌, List, [], ◌∷◌, ◌++◌, take, drop, subst}
use Rattle.std.specs.List.{between}
use Rattle.std.proofs.lemmas.List.Edits.{split_between}
use Rattle.pv_edit.specs.Changes.{change_kid}
use Rattle.pv_edit.proofs.NodePlaces.{KidAt, first, later, NodeAt, here, down}
use Rattle.pv_tree.specs.Lists.{Owner}
use Rattle.pv_tree.specs.Plain.{Forest, Tree, forest_of}
use Rattle.pv_tree.specs.declared.nodes.Mark.{Mark}
use Rattle.pv_cache.specs.WellMarked.{EachList, EachListIn}

module _ (R : Owner → Forest Mark → Mark → Type 0) where
  pub all-joined : (xs ys : List (Tree Mark)) → EachListIn R (forest_of xs) →
      EachListIn R (forest_of ys) → EachListIn R (forest_of (xs ++ ys))
  all-joined [] ys h k = k
  all-joined (x ∷ xs) ys h k = (h.0, all-joined xs ys h.1 k)

  pub all-left : (xs ys : List (Tree Mark)) → EachListIn R (forest_of (xs ++ ys)) →
      EachListIn R (forest_of xs)
  all-left [] ys h = tt
  all-left (x ∷ xs) ys h = (h.0, all-left xs ys h.1)

  pub all-right : (xs ys : List (Tree Mark)) → EachListIn R (forest_of (xs ++ ys)) →
      EachListIn R (forest_of ys)
  all-right [] ys h = h
  all-right (x ∷ xs) ys h = all-right xs ys h.1

  in-parts : (ts : List (Tree Mark)) (from to : ℕ) → from ≤ to → EachListIn R (forest_of ts) →
      EachListIn R (forest_of (take from ts ++ (between from to ts ++ drop to ts)))
  in-parts ts from to h w = subst (λ l. EachListIn R (forest_of l)) (split_between ts from to h) w

  pub all-front : (ts : List (Tree Mark)) (from to : ℕ) → from ≤ to → EachListIn R (forest_of ts) →
      EachListIn R (forest_of (take from ts))
  all-front ts from to h w =
      all-left (take from ts) (between from to ts ++ drop to ts) (in-parts ts from to h w)

  pub all-between : (ts : List (Tree Mark)) (from to : ℕ) → from ≤ to →
      EachListIn R (forest_of ts) → EachListIn R (forest_of (between from to ts))
  all-between ts from to h w =
      all-left (between from to ts) (drop to ts)
      (all-right (take from ts) (between from to ts ++ drop to ts) (in-parts ts from to h w))

  pub all-back : (ts : List (Tree Mark)) (from to : ℕ) → from ≤ to → EachListIn R (forest_of ts) →
      EachListIn R (forest_of (drop to ts))
  all-back ts from to h w =
      all-right (between from to ts) (drop to ts)
      (all-right (take from ts) (between from to ts ++ drop to ts) (in-parts ts from to h w))

  pub all-spliced : (ts new : List (Tree Mark)) (from to : ℕ) → from ≤ to →
      EachListIn R (forest_of ts) → EachListIn R (forest_of new) →
      EachListIn R (forest_of (take from ts ++ (new ++ drop to ts)))
  all-spliced ts new from to h w n =
      all-joined (take from ts) (new ++ drop to ts) (all-front ts from to h w)
      (all-joined new (drop to ts) n (all-back ts from to h w))

  pub kid-has : {i : ℕ} {kids : Forest Mark} {k : Tree Mark} → KidAt i kids k → EachListIn R kids →
      EachList R k
  kid-has first w = w.0
  kid-has (later q) w = kid-has q w.1

  pub kid-changed : {i : ℕ} {kids : Forest Mark} {k : Tree Mark} (h : Tree Mark → Tree Mark) →
      KidAt i kids k → EachList R (h k) → EachListIn R kids → EachListIn R (change_kid h i kids)
  kid-changed h first m w = (m, w.1)
  kid-changed h (later q) m w = (w.0, kid-changed h q m w.1)

  pub node-has : {path : List ℕ} {t u : Tree Mark} → NodeAt path t u → EachList R t → EachList R u
  node-has here w = w
  node-has (down q n) w = node-has n (kid-has q w.1)
