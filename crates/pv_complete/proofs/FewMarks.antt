-- The numbers of new elements are few: they are below the number of all elements of the completed document.
use Rattle.std.proofs.Common.{List, [], arith, refl, subst, suc, sym, ℕ, ◌++◌, ◌+◌, ◌<◌, ◌^◌, ◌∷◌, ◌≡◌, ◌≤◌}
use Rattle.std.specs.List.{All}
use Rattle.std.proofs.lemmas.List.Elements.{All-append, All-cons, All-nil}
use Rattle.pv_dtd.specs.Hedge.{Hedge, done, elements}
use Rattle.pv_dtd.specs.Plain.{PlainDtd}
use Rattle.pv_rules.specs.Derivations.{heaviest}
use Rattle.pv_tree.specs.Legal.{MAX_NODES}
use Rattle.pv_tree.specs.Plain.{Forest, PlainDoc, Tree, cdata_node, element, misc_node, no_trees, nodes_in, nodes_in_all, text_node, tree}
use Rattle.pv_tree.specs.View.{spread, view, view_all, view_before}
use Rattle.pv_tree.specs.declared.nodes.Mark.{Mark}
use Rattle.pv_missing.specs.Completions.{LeavesOut, out_done, out_kept, out_leaf, out_new}
use Rattle.pv_complete.specs.LeastCompletions.{IsLeastCompletion}

pub elements_spread : (us : List (List ℕ)) (h : Hedge) → elements (spread us h) ≡ elements h
elements_spread [] h = refl
elements_spread (u ∷ us) h = elements_spread us h

-- a tree has no more elements than nodes
mutual
  elements_tree : (t : Tree Mark) (h : Hedge) → elements (view_before t h) ≤ nodes_in t + elements h
  elements_tree (element x attrs e kids m) h = let k = elements_kids kids in omega arith
  elements_tree (text_node us) h = let s = elements_spread us h in omega arith
  elements_tree (cdata_node b) h = omega arith
  elements_tree (misc_node b) h = omega arith

  elements_kids : (kids : Forest Mark) → elements (view_all kids) ≤ nodes_in_all kids
  elements_kids no_trees = omega arith
  elements_kids (tree t rest) = let a = elements_tree t (view_all rest) in let b = elements_kids rest in omega arith

ends_behind : (m e : ℕ) (added : List ℕ) (h h' : Hedge) → LeavesOut m e added h h' → m ≤ e
ends_behind m e _ _ _ (out_done _ _ same) = omega arith
ends_behind m e added _ _ (out_leaf _ _ _ l h h' o) = ends_behind m e added h h' o
ends_behind m e _ _ _ (out_kept _ i _ added one two x t k k' h h' s a b) = let p = ends_behind (suc m) i one k k' a in let q = ends_behind i e two h h' b in omega arith
ends_behind m e _ _ _ (out_new _ i _ added one two x h h1 h2 k' h' s j a b) = let p = ends_behind (suc m) i one h1 k' a in let q = ends_behind i e two h2 h' b in omega arith

abbrev AreBelow : ℕ → List ℕ → Type 0
AreBelow e ms = All (λ k. k < e) ms

further : (i e : ℕ) (ms : List ℕ) → i ≤ e → AreBelow i ms → AreBelow e ms
further i e ms le a = λ k d lt. let b = a k d lt in omega arith

numbers_below : (m e : ℕ) (added : List ℕ) (h h' : Hedge) → LeavesOut m e added h h' → AreBelow e added
numbers_below m e _ _ _ (out_done _ _ same) = All-nil (λ k. k < e)
numbers_below m e added _ _ (out_leaf _ _ _ l h h' o) = numbers_below m e added h h' o
numbers_below m e _ _ _ (out_kept _ i _ added one two x t k k' h h' s a b) =
    subst (AreBelow e) (sym s) (All-append (λ z. z < e) one two (further i e one (ends_behind i e two h h' b) (numbers_below (suc m) i one k k' a)) (numbers_below i e two h h' b))
numbers_below m e _ _ _ (out_new _ i _ added one two x h h1 h2 k' h' s j a b) =
    let p = ends_behind (suc m) i one h1 k' a in let q = ends_behind i e two h2 h' b in
    subst (AreBelow e) (sym s) (All-cons (λ z. z < e) m (one ++ two) (omega arith)
    (All-append (λ z. z < e) one two (further i e one q (numbers_below (suc m) i one h1 k' a))
    (numbers_below i e two h2 h' b)))

pub few_marks : (g : PlainDtd) (root : List ℕ) (doc : PlainDoc Mark) (count : ℕ)
    (marks body : List ℕ) → nodes_in doc.root ≤ MAX_NODES →
    IsLeastCompletion g root doc count marks body → All (λ k. k < 2 ^ 32) marks
few_marks g root doc count marks body small l = λ k d lt. let b = below k d lt in let e = end in omega arith
  where
    below : AreBelow (elements (view l.tree)) marks
    below = let c = l.completes in numbers_below 0 (elements (view l.tree)) marks (view doc.root) (view l.tree) c.tags

    end : elements (view l.tree) ≤ MAX_NODES + heaviest
    end = let c = l.completes in let i = c.inserted in let n = l.needs in let f = n.light in let t = elements_tree doc.root done in omega arith
