-- The comparison tells sorted order.
use Rattle.std.proofs.Common.{◌≡◌, ◌⊎◌, inl, inr, ℕ, ◌<◌, Bool, true, false, List, [], ◌∷◌, suc, ◌+◌, map, get_or, subst, refl, sym, arith}
use Rattle.std.specs.Cmp.{IsStrictWeakOrder, nat_cmp_is}
use Rattle.std.specs.Ordering.{nat_cmp, ordering_then, is_lt}
use Rattle.std.specs.declared.cmp.Ordering.TheVariants.{Less, Equal, Greater}
use Rattle.std.specs.List.{AllByRecursion, All}
use Rattle.std.specs.List.Sorted.{IsSortedBy}
use Rattle.std.proofs.lemmas.Bool.{cases_order, false_from_ne_true, true≢false}
use Rattle.std.proofs.lemmas.List.Sorted.{sorted_far}
use Rattle.pv_standoff.specs.Ranges.{IsRangeBefore, AreSorted}
use Rattle.pv_standoff.specs.declared.ranges.Range.{Range}
use Rattle.pv_standoff.specs.RangeOrder.{is_before}
use Rattle.pv_standoff.proofs.OneSortedOrder.{before_once}
use Rattle.pv_standoff.proofs.Order.{not_before}

-- by the comparison of each of the three
abbrev IsLexBefore : (a b c a' b' c' : ℕ) → Type 0
IsLexBefore a b c a' b' c' = (a < a') ⊎ (a ≡ a') × (b' < b) ⊎ (a ≡ a') × (b' ≡ b) × (c < c')

abbrev lex : (a b c a' b' c' : ℕ) → Bool
lex a b c a' b' c' = is_lt (ordering_then (ordering_then (nat_cmp a a') (nat_cmp b' b)) (nat_cmp c c'))

decides : (a b c a' b' c' : ℕ) → (lex a b c a' b' c' ≡ true) × IsLexBefore a b c a' b' c' ⊎ (lex a b c a' b' c' ≡ false) × (IsLexBefore a b c a' b' c' → ⊥)
decides a b c a' b' c' = elim (cases_order a a') [
  | inr x ↦ elim x [
    | inl l ↦ rw (sym (nat_cmp_is a a' Less l)) (inl (refl, inl l))
    | inr g ↦ rw (sym (nat_cmp_is a a' Greater g)) (inr (refl, λ h. grind arith))
  ]
  | inl e ↦ rw (sym (nat_cmp_is a a' Equal e)) (elim (cases_order b' b) [
    | inr x ↦ elim x [
      | inl l ↦ rw (sym (nat_cmp_is b' b Less l)) (inl (refl, grind arith))
      | inr g ↦ rw (sym (nat_cmp_is b' b Greater g)) (inr (refl, λ h. grind arith))
    ]
    | inl e' ↦ rw (sym (nat_cmp_is b' b Equal e')) (elim (cases_order c c') [
      | inr x ↦ elim x [
        | inl l ↦ rw (sym (nat_cmp_is c c' Less l)) (inl (refl, grind arith))
        | inr g ↦ rw (sym (nat_cmp_is c c' Greater g)) (inr (refl, λ h. grind arith))
      ]
      | inl e'' ↦ rw (sym (nat_cmp_is c c' Equal e'')) (inr (refl, λ h. grind arith))
    ])
  ])
]

pub before_true : (r q : Range) → is_before r q ≡ true → IsRangeBefore r q
before_true r q e = elim (decides r.from r.to r.level q.from q.to q.level) [ inl d ↦ d.1 | inr d ↦ absurd (true≢false (let f = d.0 in cc)) ]

pub before_false : (r q : Range) → is_before r q ≡ false → IsRangeBefore r q → ⊥
before_false r q e b = elim (decides r.from r.to r.level q.from q.to q.level) [ inl d ↦ true≢false (let f = d.0 in cc) | inr d ↦ d.1 b ]

pub before_order : IsStrictWeakOrder is_before
before_order = record {
  one_way = λ x y e. false_from_ne_true (is_before y x) (λ f. before_once x y (before_true x y e) (before_true y x f));
  chain = λ x y z e f. false_from_ne_true (is_before x z) (λ g. not_before x y z (before_false y z f) (before_false x y e) (before_true x z g));
}

all_of_map : {X Y : Type 0} (P : Y → Type 0) (f : X → Y) (xs : List X) → All (λ x. P (f x)) xs → AllByRecursion P (map f xs)
all_of_map P f [] h = tt
all_of_map P f (x ∷ xs) h = (h 0 x (omega arith), all_of_map P f xs (λ k d l. h (suc k) d (omega (arith, l))))

-- what is sorted by the comparison of what f gives
pub in_order-sorted : {X : Type 0} (f : X → Range) (xs : List X) → IsStrictWeakOrder (λ x y. is_before (f x) (f y)) →
    IsSortedBy (λ x y. is_before (f x) (f y)) xs → AreSorted (map f xs)
in_order-sorted f [] o s = tt
in_order-sorted f (x ∷ xs) o s = (
  all_of_map (λ q. IsRangeBefore q (f x) → ⊥) f xs (λ k d l. before_false (f _) (f x) (sorted_far _ o (x ∷ xs) s 0 (suc k) d (omega arith) (omega (arith, l)))),
  in_order-sorted f xs o (λ k d l h. let e : suc k + 1 ≡ suc (k + 1) = omega arith in
      subst (λ z. is_before (f (get_or (x ∷ xs) z d)) (f (get_or xs k d)) ≡ false) e (s (suc k) d (omega arith) (omega (arith, h)))),
)

pub order_of : {X : Type 0} (f : X → Range) → IsStrictWeakOrder (λ x y. is_before (f x) (f y))
order_of f = record { one_way = λ x y. before_order.one_way (f x) (f y); chain = λ x y z. before_order.chain (f x) (f y) (f z) }
