-- Bare forests with the same units and the same spans are the same, where each span holds a unit.
use Rattle.std.proofs.Common.{◌≡◌, ◌≢◌, ◌⊎◌, inl, inr, ℕ, ◌+◌, ◌<◌, ◌≤◌, List, [], ◌∷◌, ◌++◌, length, refl, sym, ◌∙◌, ap, arith, length-append, append-nil}
use Rattle.std.specs.List.{AllByRecursion}
use Rattle.pv_tree.specs.Plain.{Tree, element, text_node, cdata_node, misc_node, Forest, no_trees, tree}
use Rattle.pv_tree.specs.declared.nodes.Mark.{Mark}
use Rattle.pv_standoff.specs.Spans.{Span, units_of, units_of_all, spans_of, spans_of_all, AreBare, BeginsWithText, AreApart}
use Rattle.pv_standoff.proofs.Lists.{all-append, all-left, all-right, all-map, all-both, same_cut, same_split}

-- the span begins at n or later, and ends at m or earlier
abbrev pub IsBetween : ℕ → ℕ → Span → Type 0
IsBetween n m s = (n ≤ s.from) × (s.to ≤ m)

mutual
  pub spans_of-between : (n m : ℕ) (t : Tree Mark) → n + length (units_of t) ≤ m → AllByRecursion (IsBetween n m) (spans_of n t)
  spans_of-between n m (element x attrs ending kids mark) h = ((omega arith, h), spans_of_all-between n m kids h)
  spans_of-between n m (text_node units) h = tt
  spans_of-between n m (cdata_node bytes) h = tt
  spans_of-between n m (misc_node bytes) h = tt

  pub spans_of_all-between : (n m : ℕ) (k : Forest Mark) → n + length (units_of_all k) ≤ m → AllByRecursion (IsBetween n m) (spans_of_all n k)
  spans_of_all-between n m no_trees h = tt
  spans_of_all-between n m (tree t rest) h =
      let l = length-append (units_of t) (units_of_all rest) in
      all-append (IsBetween n m) (spans_of n t) (spans_of_all (n + length (units_of t)) rest)
      (spans_of-between n m t (omega (arith, h, l)))
      (all-map (IsBetween (n + length (units_of t)) m) (IsBetween n m) (spans_of_all (n + length (units_of t)) rest) (λ s b. (omega (arith, b.0), b.1))
      (spans_of_all-between (n + length (units_of t)) m rest (omega (arith, h, l))))

abbrev pub IsFull : Span → Type 0
IsFull s = s.from < s.to

-- the spans of a forest begin before its end
begin_before : (n : ℕ) (k : Forest Mark) → AllByRecursion IsFull (spans_of_all n k) → AllByRecursion (λ s. s.from < n + length (units_of_all k)) (spans_of_all n k)
begin_before n k f =
    all-both (IsBetween n (n + length (units_of_all k))) IsFull (λ s. s.from < n + length (units_of_all k)) (spans_of_all n k) (λ s b g. omega (arith, b.1, g))
    (spans_of_all-between n (n + length (units_of_all k)) k (omega arith)) f

begin_after : (n : ℕ) (k : Forest Mark) → AllByRecursion (λ s. n ≤ s.from) (spans_of_all n k)
begin_after n k = all-map (IsBetween n (n + length (units_of_all k))) (λ s. n ≤ s.from) (spans_of_all n k) (λ s b. b.0)
    (spans_of_all-between n (n + length (units_of_all k)) k (omega arith))

same_head : (s s' : Span) (a a' : List Span) → s ∷ a ≡ s' ∷ a' → s ≡ s'
same_head s s' a a' e = cc

-- Where neither forest begins with a text, the same spans begin at the same number, or there are no trees in both.
same_begin : (n n' : ℕ) (k k' : Forest Mark) → AreBare k → AreBare k' → (BeginsWithText k → ⊥) → (BeginsWithText k' → ⊥) → spans_of_all n k ≡ spans_of_all n' k' →
    (k ≡ no_trees) × (k' ≡ no_trees) ⊎ (n ≡ n')
same_begin n n' no_trees no_trees b b' t t' e = inl (refl, refl)
same_begin n n' no_trees (tree (element x a g k m) r) b b' t t' e = absurd cc
same_begin n n' no_trees (tree (text_node u) r) b b' t t' e = absurd (t' tt)
same_begin n n' no_trees (tree (cdata_node u) r) b b' t t' e = absurd b'.0
same_begin n n' no_trees (tree (misc_node u) r) b b' t t' e = absurd b'.0
same_begin n n' (tree (element x a g k m) r) no_trees b b' t t' e = absurd cc
same_begin n n' (tree (element x a g k m) r) (tree (element x' a' g' k' m') r') b b' t t' e = inr (ap (λ z. z.from) (same_head _ _ _ _ e))
same_begin n n' (tree (element x a g k m) r) (tree (text_node u) r') b b' t t' e = absurd (t' tt)
same_begin n n' (tree (element x a g k m) r) (tree (cdata_node u) r') b b' t t' e = absurd b'.0
same_begin n n' (tree (element x a g k m) r) (tree (misc_node u) r') b b' t t' e = absurd b'.0
same_begin n n' (tree (text_node u) r) k' b b' t t' e = absurd (t tt)
same_begin n n' (tree (cdata_node u) r) k' b b' t t' e = absurd b.0
same_begin n n' (tree (misc_node u) r) k' b b' t t' e = absurd b.0

some_units : (u : List (List ℕ)) → u ≢ [] → 1 ≤ length u
some_units [] n = absurd (n refl)
some_units (x ∷ u) n = omega arith

-- a text can't stand where the other forest has an element
no_text_here : (n : ℕ) (u : List (List ℕ)) (s : Span) (rest : List Span) (k : Forest Mark) → u ≢ [] → s.from ≡ n → spans_of_all (n + length u) k ≡ s ∷ rest → ⊥
no_text_here n u s rest k some b e =
    let a = rw e at (begin_after (n + length u) k) in let l = some_units u some in omega (arith, a.0, l, b)

no_units : (u v : List (List ℕ)) → u ≢ [] → [] ≡ u ++ v → ⊥
no_units [] v n e = n refl
no_units (x ∷ u) v n e = absurd cc

pub same_forests : (n : ℕ) (k k' : Forest Mark) → AreBare k → AreBare k' → AreApart k → AreApart k' → AllByRecursion IsFull (spans_of_all n k) →
    units_of_all k ≡ units_of_all k' → spans_of_all n k ≡ spans_of_all n k' → k ≡ k'
same_forests n no_trees no_trees b b' a a' f u s = refl
same_forests n no_trees (tree (element x' t' g' k' m') r') b b' a a' f u s = absurd cc
same_forests n no_trees (tree (text_node v') r') b b' a a' f u s = absurd (no_units v' (units_of_all r') b'.0 u)
same_forests n no_trees (tree (cdata_node v') r') b b' a a' f u s = absurd b'.0
same_forests n no_trees (tree (misc_node v') r') b b' a a' f u s = absurd b'.0
same_forests n (tree (element x t g k m) r) no_trees b b' a a' f u s = absurd cc
same_forests n (tree (element x t g k m) r) (tree (element x' t' g' k' m') r') b b' a a' f u s =
    let h = same_head _ _ _ _ s in
    let ex : x ≡ x' = ap (λ z. z.name) h in
    let em : n + length (units_of_all k) ≡ n + length (units_of_all k') = ap (λ z. z.to) h in
    let cut = same_cut (units_of_all k) (units_of_all k') (units_of_all r) (units_of_all r') (omega (arith, em)) u in
    let tails : spans_of_all n k ++ spans_of_all (n + length (units_of_all k)) r ≡ spans_of_all n k' ++ spans_of_all (n + length (units_of_all k')) r' = cc in
    let tails' = rw (sym em) at tails in
    let f' : AllByRecursion IsFull (spans_of_all n k' ++ spans_of_all (n + length (units_of_all k)) r') = rw tails' at f.1 in
    let here = same_split (λ z. z.from) (n + length (units_of_all k)) (spans_of_all n k)
    (spans_of_all n k') (spans_of_all (n + length (units_of_all k)) r)
    (spans_of_all (n + length (units_of_all k)) r')
    (begin_before n k (all-left IsFull (spans_of_all n k) _ f.1))
    (rw (sym em) at (begin_before n k' (all-left IsFull (spans_of_all n k') _ f')))
    (begin_after (n + length (units_of_all k)) r)
    (begin_after (n + length (units_of_all k)) r')
    tails' in
    let ek = same_forests n k k' b.0.3 b'.0.3 a.0 a'.0 (all-left IsFull (spans_of_all n k) _ f.1) cut.0 here.0 in
    let er = same_forests (n + length (units_of_all k)) r r' b.1 b'.1 a.2 a'.2 (all-right IsFull (spans_of_all n k) _ f.1) cut.1 here.1 in
    let ea : t ≡ t' = b.0.0 ∙ sym b'.0.0 in
    let eg : g ≡ g' = b.0.1 ∙ sym b'.0.1 in
    let em' : m ≡ m' = b.0.2 ∙ sym b'.0.2 in
    cc
same_forests n (tree (element x t g k m) r) (tree (text_node v') r') b b' a a' f u s = absurd (no_text_here n v' _ _ r' b'.0 refl (sym s))
same_forests n (tree (element x t g k m) r) (tree (cdata_node v') r') b b' a a' f u s = absurd b'.0
same_forests n (tree (element x t g k m) r) (tree (misc_node v') r') b b' a a' f u s = absurd b'.0
same_forests n (tree (text_node v) r) no_trees b b' a a' f u s = absurd (no_units v (units_of_all r) b.0 (sym u))
same_forests n (tree (text_node v) r) (tree (element x' t' g' k' m') r') b b' a a' f u s = absurd (no_text_here n v _ _ r b.0 refl s)
same_forests n (tree (text_node v) r) (tree (text_node v') r') b b' a a' f u s =
    elim (same_begin (n + length v) (n + length v') r r' b.1 b'.1 (a.1 tt) (a'.1 tt) s) [
      | inl p ↦ (let q = p.0 in let q' = p.1 in
          let e = rw p.0 at u in
          let e' = rw p.1 at e in
          let w : v ≡ v' = sym (append-nil v) ∙ e' ∙ append-nil v' in
          cc)
      | inr m ↦ (let cut = same_cut v v' (units_of_all r) (units_of_all r') (omega (arith, m)) u in
          let c = cut.0 in
          let er = same_forests (n + length v) r r' b.1 b'.1 a.2 a'.2 f cut.1 (rw (sym m) at s) in
          cc)
    ]
same_forests n (tree (text_node v) r) (tree (cdata_node v') r') b b' a a' f u s = absurd b'.0
same_forests n (tree (text_node v) r) (tree (misc_node v') r') b b' a a' f u s = absurd b'.0
same_forests n (tree (cdata_node v) r) k' b b' a a' f u s = absurd b.0
same_forests n (tree (misc_node v) r) k' b b' a a' f u s = absurd b.0
