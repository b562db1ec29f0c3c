-- No two spans of a tree cross.
use Rattle.std.proofs.Common.{◌⊎◌, inl, inr, ℕ, ◌+◌, ◌<◌, List, [], ◌∷◌, ◌++◌, length, ap, arith}
use Rattle.pv_tree.specs.Plain.{Tree, element, text_node, cdata_node, misc_node, Forest, no_trees, tree}
use Rattle.pv_tree.specs.declared.nodes.Mark.{Mark}
use Rattle.pv_standoff.specs.Spans.{Span, units_of, units_of_all, spans_of, spans_of_all}
use Rattle.pv_standoff.proofs.OneSortedOrder.{Among, all-among}
use Rattle.pv_standoff.proofs.SameForests.{IsBetween, spans_of-between, spans_of_all-between}

pub among-append : {X : Type 0} (x : X) (a b : List X) → Among x (a ++ b) → Among x a ⊎ Among x b
among-append x [] b m = inr m
among-append x (y ∷ a) b m = elim m [
  | inl e ↦ inl (inl e)
  | inr n ↦ elim (among-append x a b n) [ inl p ↦ inl (inr p) | inr q ↦ inr q ]
]

abbrev pub SpansCross : Span → Span → Type 0
SpansCross s t = (s.from < t.from) × (t.from < s.to) × (s.to < t.to)

between_of : (n : ℕ) (t : Tree Mark) (s : Span) → Among s (spans_of n t) → IsBetween n (n + length (units_of t)) s
between_of n t s m = all-among (IsBetween n (n + length (units_of t))) (spans_of n t) (spans_of-between n (n + length (units_of t)) t (omega arith)) s m

pub between_in : (n : ℕ) (k : Forest Mark) (s : Span) → Among s (spans_of_all n k) → IsBetween n (n + length (units_of_all k)) s
between_in n k s m = all-among (IsBetween n (n + length (units_of_all k))) (spans_of_all n k) (spans_of_all-between n (n + length (units_of_all k)) k (omega arith)) s m

mutual
  pub none_cross_of : (n : ℕ) (t : Tree Mark) (s s' : Span) → Among s (spans_of n t) → Among s' (spans_of n t) → SpansCross s s' → ⊥
  none_cross_of n (element x a g k k') s s' i j c = elim i [
    | inl e ↦ elim j [
      | inl e' ↦ (let p = ap (λ z. z.from) e in let p' = ap (λ z. z.from) e' in omega (arith, c.0, p, p'))
      | inr m ↦ (let h = between_in n k s' m in let p = ap (λ z. z.to) e in omega (arith, h.1, p, c.2))
    ]
    | inr m ↦ elim j [
      | inl e' ↦ (let h = between_in n k s m in let p = ap (λ z. z.from) e' in omega (arith, h.0, p, c.0))
      | inr m' ↦ none_cross_in n k s s' m m' c
    ]
  ]
  none_cross_of n (text_node u) s s' i j c = i
  none_cross_of n (cdata_node u) s s' i j c = i
  none_cross_of n (misc_node u) s s' i j c = i

  pub none_cross_in : (n : ℕ) (k : Forest Mark) (s s' : Span) → Among s (spans_of_all n k) → Among s' (spans_of_all n k) → SpansCross s s' → ⊥
  none_cross_in n no_trees s s' i j c = i
  none_cross_in n (tree t rest) s s' i j c = elim (among-append s (spans_of n t) (spans_of_all (n + length (units_of t)) rest) i) [
    | inl a ↦ elim (among-append s' (spans_of n t) (spans_of_all (n + length (units_of t)) rest) j) [
      | inl b ↦ none_cross_of n t s s' a b c
      | inr b ↦ (let h = between_of n t s a in let h' = between_in (n + length (units_of t)) rest s' b in omega (arith, h.1, h'.0, c.1))
    ]
    | inr a ↦ elim (among-append s' (spans_of n t) (spans_of_all (n + length (units_of t)) rest) j) [
      | inl b ↦ (let h = between_in (n + length (units_of t)) rest s a in let h' = between_of n t s' b in omega (arith, h.0, h'.1, c.0, c.1, c.2))
      | inr b ↦ none_cross_in (n + length (units_of t)) rest s s' a b c
    ]
  ]
