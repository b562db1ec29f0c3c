-- Each list of ranges has a sorted order.
use Rattle.std.proofs.Common.{◌⊎◌, inl, inr, List, [], ◌∷◌, arith}
use Rattle.std.specs.Prelude.{IsPermutation}
use Rattle.std.proofs.lemmas.Bool.{cases_order, cases_lt}
use Rattle.std.proofs.lemmas.List.Sorted.{IsPermutation-refl, IsPermutation-sym, IsPermutation-trans, IsPermutation-cons, IsPermutation-middle}
use Rattle.pv_standoff.specs.Ranges.{IsRangeBefore, AreSorted, IsSortedFrom}
use Rattle.pv_standoff.specs.declared.ranges.Range.{Range}
use Rattle.pv_standoff.proofs.Lists.{all-map}
use Rattle.pv_standoff.proofs.OneSortedOrder.{Among, all-among, among-all, before_once}

pub before_cases : (q r : Range) → IsRangeBefore q r ⊎ (IsRangeBefore q r → ⊥)
before_cases q r = elim (cases_order q.from r.from) [
  | inl e ↦ elim (cases_order q.to r.to) [
    | inl g ↦ elim (cases_lt q.level r.level) [ inl h ↦ inl (grind arith) | inr h ↦ inr (λ b. grind arith) ]
    | inr g ↦ elim g [ inl h ↦ inr (λ b. grind arith) | inr h ↦ inl (grind arith) ]
  ]
  | inr e ↦ elim e [ inl h ↦ inl (inl h) | inr h ↦ inr (λ b. grind arith) ]
]

pub not_before : (x q r : Range) → (IsRangeBefore q r → ⊥) → (IsRangeBefore x q → ⊥) → IsRangeBefore x r → ⊥
not_before x q r a b c = grind arith

pub record IsPut (r : Range) (rs out : List Range) : Type 0 where
  pub permutation : IsPermutation (r ∷ rs) out
  pub in_order : AreSorted out
  pub among : (x : Range) → Among x out → Among x (r ∷ rs)

put : (r : Range) (rs : List Range) → AreSorted rs → (out : List Range) × IsPut r rs out
put r [] o = (r ∷ [], record { permutation = IsPermutation-refl (r ∷ []); in_order = (tt, tt); among = λ x m. m })
put r (q ∷ qs) o = elim (before_cases q r) [
  | inl b ↦ (let i = put r qs o.1 in (
    q ∷ i.0,
    record {
      permutation = IsPermutation-trans (r ∷ q ∷ qs) (q ∷ r ∷ qs) (q ∷ i.0) (IsPermutation-sym (q ∷ r ∷ qs) (r ∷ q ∷ qs) (IsPermutation-middle (q ∷ []) r qs))
          (IsPermutation-cons q (r ∷ qs) i.0 (i.1).permutation);
      in_order = (among-all (λ x. IsRangeBefore x q → ⊥) i.0 (λ x m. all-among (λ y. IsRangeBefore y q → ⊥) (r ∷ qs) (before_once q r b, o.0) x ((i.1).among x m)), (i.1).in_order);
      among = λ x m. elim m [ inl e ↦ inr (inl e) | inr n ↦ elim ((i.1).among x n) [ inl e ↦ inl e | inr l ↦ inr (inr l) ] ];
    },
  ))
  | inr n ↦ (
    r ∷ q ∷ qs,
    record {
      permutation = IsPermutation-refl (r ∷ q ∷ qs);
      in_order = ((n, all-map (λ x. IsRangeBefore x q → ⊥) (λ x. IsRangeBefore x r → ⊥) qs (λ x m. not_before x q r n m) o.0), o);
      among = λ x m. m;
    },
  )
]

pub sorted_from : (rs : List Range) → (out : List Range) × IsSortedFrom rs out
sorted_from [] = ([], record { permutation = IsPermutation-refl []; in_order = tt })
sorted_from (r ∷ rs) =
    let i = sorted_from rs in
    let p = put r i.0 (i.1).in_order in (
      p.0,
      record {
        permutation = IsPermutation-trans (r ∷ rs) (r ∷ i.0) p.0 (IsPermutation-cons r rs i.0 (i.1).permutation) (p.1).permutation;
        in_order = (p.1).in_order;
      },
    )
