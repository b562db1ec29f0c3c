-- A list of ranges of which none is twice has one sorted order.
use Rattle.std.proofs.Common.{◌≡◌, ◌⊎◌, inl, inr, ℕ, zero, suc, ◌<◌, ◌≤◌, List, [], ◌∷◌, length, refl, sym, ◌∙◌, arith, eq-eqb, ne_eqb, if◌then◌else◌}
use Rattle.std.specs.Prelude.{IsPermutation, slice_index_or}
use Rattle.std.specs.Bool.{◌==◌}
use Rattle.std.specs.List.{AllByRecursion, All, Contains, sum_by}
use Rattle.std.proofs.lemmas.Bool.{cases_eq}
use Rattle.std.proofs.lemmas.List.Sums.{sum_by-cons}
use Rattle.std.proofs.lemmas.List.Sorted.{sum_by-IsPermutation, Contains-permutation, IsPermutation-sym, IsPermutation-trans}
use Rattle.pv_standoff.specs.Ranges.{IsRangeBefore, HaveSamePlace, AreSorted, IsSortedFrom, NoneTwice}
use Rattle.pv_standoff.specs.declared.ranges.Range.{Range}

-- x is an element of the list
abbrev pub Among : {X : Type 0} → X → List X → Type 0
Among x [] = ⊥
Among x (y ∷ ys) = (x ≡ y) ⊎ Among x ys

pub among_at : {X : Type 0} (x : X) (xs : List X) (k : ℕ) → k < length xs → slice_index_or xs k x ≡ x → Among x xs
among_at x [] k l e = absurd (omega (arith, l))
among_at x (y ∷ ys) zero l e = inl (sym e)
among_at x (y ∷ ys) (suc k) l e = inr (among_at x ys k (omega (arith, l)) e)

pub contains-among : {X : Type 0} (x : X) (xs : List X) → Contains xs x → Among x xs
contains-among x xs (k, l, e) = among_at x xs k l e

pub among-contains : {X : Type 0} (x : X) (xs : List X) → Among x xs → Contains xs x
among-contains x [] a = absurd a
among-contains x (y ∷ ys) a = elim a [
  | inl e ↦ (0, omega arith, sym e)
  | inr b ↦ (let c = among-contains x ys b in (suc c.0, (let l = c.1 in omega arith), c.2))
]

pub all-among : {X : Type 0} (P : X → Type 0) (xs : List X) → AllByRecursion P xs → (x : X) → Among x xs → P x
all-among P [] p x a = absurd a
all-among P (y ∷ ys) p x a = elim a [ inl e ↦ rw e p.0 | inr b ↦ all-among P ys p.1 x b ]

pub among-all : {X : Type 0} (P : X → Type 0) (xs : List X) → ((x : X) → Among x xs → P x) → AllByRecursion P xs
among-all P [] f = tt
among-all P (y ∷ ys) f = (f y (inl refl), among-all P ys (λ x a. f x (inr a)))

pub all-recursion : {X : Type 0} (P : X → Type 0) (xs : List X) → All P xs → AllByRecursion P xs
all-recursion P [] p = tt
all-recursion P (y ∷ ys) p = (p 0 y (omega arith), all-recursion P ys (λ k d l. p (suc k) d (omega (arith, l))))

-- 1 where they have the same place
abbrev pub hit : (a b c a' b' c' : ℕ) → ℕ
hit a b c a' b' c' = if a == a' then (if b == b' then (if c == c' then 1 else 0) else 0) else 0

abbrev pub hits : Range → Range → ℕ
hits r q = hit r.from r.to r.level q.from q.to q.level

is_hit : (a b c a' b' c' : ℕ) → (a ≡ a') × (b ≡ b') × (c ≡ c') → hit a b c a' b' c' ≡ 1
is_hit a b c a' b' c' (p, q, r) = rw (eq-eqb a a' p) (rw (eq-eqb b b' q) (rw (eq-eqb c c' r) refl))

no_hit : (a b c a' b' c' : ℕ) → ((a ≡ a') × (b ≡ b') × (c ≡ c') → ⊥) → hit a b c a' b' c' ≡ 0
no_hit a b c a' b' c' n = elim (cases_eq a a') [
  | inr x ↦ rw (ne_eqb a a' x) refl
  | inl p ↦ rw (eq-eqb a a' p) (elim (cases_eq b b') [
    | inr x ↦ rw (ne_eqb b b' x) refl
    | inl q ↦ rw (eq-eqb b b' q) (elim (cases_eq c c') [
      | inr x ↦ rw (ne_eqb c c' x) refl
      | inl r ↦ absurd (n (p, q, r))
    ])
  ])
]

pub place_cases : (r q : Range) → HaveSamePlace r q ⊎ (HaveSamePlace r q → ⊥)
place_cases r q = elim (cases_eq r.from q.from) [
  | inr x ↦ inr (λ s. x s.0)
  | inl a ↦ elim (cases_eq r.to q.to) [
    | inr x ↦ inr (λ s. x s.1)
    | inl b ↦ elim (cases_eq r.level q.level) [ inr x ↦ inr (λ s. x s.2) | inl c ↦ inl (a, b, c) ]
  ]
]

pub no_hits_at : (r q : Range) → (HaveSamePlace r q → ⊥) → hits r q ≡ 0
no_hits_at r q d = no_hit r.from r.to r.level q.from q.to q.level d

pub self_hits : (r : Range) → hits r r ≡ 1
self_hits r = is_hit r.from r.to r.level r.from r.to r.level (refl, refl, refl)

-- two ranges of one place count alike
pub hits_alike : (p r q : Range) → HaveSamePlace r q → hits p r ≡ hits p q
hits_alike p r q s = λ i. hit p.from p.to p.level (s.0 i) (s.1 i) (s.2 i)

no_hits : (r : Range) (rs : List Range) → AllByRecursion (λ q. HaveSamePlace r q → ⊥) rs → sum_by (hits r) rs ≡ 0
no_hits r [] n = refl
no_hits r (q ∷ rs) n = rw (sum_by-cons (hits r) q rs) (let a = no_hit r.from r.to r.level q.from q.to q.level n.0 in let b = no_hits r rs n.1 in omega (arith, a, b))

hits_none : (r : Range) (rs : List Range) → sum_by (hits r) rs ≡ 0 → AllByRecursion (λ q. HaveSamePlace r q → ⊥) rs
hits_none r [] e = tt
hits_none r (q ∷ rs) e = let c = sum_by-cons (hits r) q rs in
    ((λ s. let h = is_hit r.from r.to r.level q.from q.to q.level s in omega (arith, h, c, e)), hits_none r rs (omega (arith, c, e)))

hits_most : (r : Range) (rs : List Range) → NoneTwice rs → sum_by (hits r) rs ≤ 1
hits_most r [] n = omega arith
hits_most r (q ∷ rs) n = let c = sum_by-cons (hits r) q rs in elim (place_cases r q) [
  | inl s ↦ (let h = is_hit r.from r.to r.level q.from q.to q.level s in
      let z = no_hits r rs (among-all _ rs (λ x a t. all-among _ rs n.0 x a (sym s.0 ∙ t.0, sym s.1 ∙ t.1, sym s.2 ∙ t.2))) in
      omega (arith, h, c, z))
  | inr d ↦ (let h = no_hit r.from r.to r.level q.from q.to q.level d in let i = hits_most r rs n.1 in omega (arith, h, c, i))
]

most_hits : (rs : List Range) → ((r : Range) → sum_by (hits r) rs ≤ 1) → NoneTwice rs
most_hits [] f = tt
most_hits (q ∷ rs) f = (
  hits_none q rs (let c = sum_by-cons (hits q) q rs in let h = is_hit q.from q.to q.level q.from q.to q.level (refl, refl, refl) in omega (arith, c, h, f q)),
  most_hits rs (λ r. let c = sum_by-cons (hits r) q rs in omega (arith, c, f r)),
)

pub none_twice-permutation : (rs qs : List Range) → IsPermutation rs qs → NoneTwice rs → NoneTwice qs
none_twice-permutation rs qs p n = most_hits qs (λ r. let e = sum_by-IsPermutation (hits r) rs qs p in omega (arith, e, hits_most r rs n))

-- each range is before those after it
abbrev pub AreRising : List Range → Type 0
AreRising [] = Unit {0}
AreRising (r ∷ rs) = AllByRecursion (IsRangeBefore r) rs × AreRising rs

pub before_or_not : (r q : Range) → (IsRangeBefore q r → ⊥) → (HaveSamePlace r q → ⊥) → IsRangeBefore r q
before_or_not r q n s = grind arith

pub rising : (rs : List Range) → AreSorted rs → NoneTwice rs → AreRising rs
rising [] o n = tt
rising (r ∷ rs) o n = (among-all (IsRangeBefore r) rs (λ q a. before_or_not r q (all-among _ rs o.0 q a) (all-among _ rs n.0 q a)), rising rs o.1 n.1)

pub before_once : (r q : Range) → IsRangeBefore r q → IsRangeBefore q r → ⊥
before_once r q a b = grind arith

same_first : (r q : Range) (rs qs : List Range) → AreRising (r ∷ rs) → AreRising (q ∷ qs) → Among r (q ∷ qs) → Among q (r ∷ rs) → r ≡ q
same_first r q rs qs a b i j = elim i [
  | inl e ↦ e
  | inr i' ↦ elim j [ inl e ↦ sym e | inr j' ↦ absurd (before_once r q (all-among _ rs a.0 q j') (all-among _ qs b.0 r i')) ]
]

later : (r x : Range) (rs qs : List Range) → AllByRecursion (IsRangeBefore r) rs → Among x rs → Among x (r ∷ qs) → Among x qs
later r x rs qs a i j = elim j [
  | inl e ↦ (let h : IsRangeBefore r r = rw e at (all-among _ rs a x i) in absurd (before_once r r h h))
  | inr k ↦ k
]

pub same_rising : (rs qs : List Range) → AreRising rs → AreRising qs → ((x : Range) → Among x rs → Among x qs) → ((x : Range) → Among x qs → Among x rs) → rs ≡ qs
same_rising [] [] a b f g = refl
same_rising [] (q ∷ qs) a b f g = absurd (g q (inl refl))
same_rising (r ∷ rs) [] a b f g = absurd (f r (inl refl))
same_rising (r ∷ rs) (q ∷ qs) a b f g =
    let e = same_first r q rs qs a b (f r (inl refl)) (g q (inl refl)) in
    let i = same_rising rs qs a.1 b.1
    (λ x m. later r x rs qs a.0 m (rw (sym e) at (f x (inr m))))
    (λ x m. later q x qs rs b.0 m (rw e at (g x (inr m)))) in
    cc

pub one_order : (ranges s s' : List Range) → NoneTwice ranges → IsSortedFrom ranges s → IsSortedFrom ranges s' → s ≡ s'
one_order ranges s s' n i i' = same_rising s s'
    (rising s i.in_order (none_twice-permutation ranges s i.permutation n))
    (rising s' i'.in_order (none_twice-permutation ranges s' i'.permutation n))
    (λ x a. contains-among x s' (Contains-permutation s s' x (IsPermutation-trans s ranges s' (IsPermutation-sym ranges s i.permutation) i'.permutation) (among-contains x s a)))
    (λ x a. contains-among x s (Contains-permutation s' s x (IsPermutation-trans s' ranges s (IsPermutation-sym ranges s' i'.permutation) i.permutation) (among-contains x s' a)))

pub all-permutation : (P : Range → Type 0) (rs qs : List Range) → IsPermutation rs qs → AllByRecursion P rs → AllByRecursion P qs
all-permutation P rs qs p a =
    among-all P qs (λ x m. all-among P rs a x (contains-among x rs (Contains-permutation qs rs x (IsPermutation-sym rs qs p) (among-contains x qs m))))
