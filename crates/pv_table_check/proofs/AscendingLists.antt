-- Lists of which each item stands before the next one.
use Rattle.std.proofs.Common.{List, Some, arith, get_or, inl, inr, length, slice_get, subst, suc, zero, ℕ, ◌+◌, ◌-◌, ◌<◌, ◌≡◌, ◌≤◌, ◌⊎◌}
use Rattle.std.specs.List.{AllPairs}
use Rattle.std.proofs.lemmas.Bool.{cases_lt}
use Rattle.std.proofs.lemmas.Option.{get_or_from_slice_get, slice_get-get_or, slice_get_within}

module _ {X : Type 0} (R : X → X → Type 0) (xs : List X) where
  -- each item before this place stands before the next one
  pub record AscendUpTo (place : ℕ) : Type 0 where
    pub each : (k : ℕ) (d e : X) → suc k < place → slice_get xs k ≡ Some d → slice_get xs (suc k) ≡ Some e → R d e

  pub up_to_one : (place : ℕ) → place ≤ 1 → AscendUpTo place
  up_to_one place le = record { each = λ k d e lt f g. absurd (omega arith) }

  pub one_more : (place : ℕ) → 0 < place → AscendUpTo place → ((d e : X) → slice_get xs (place - 1) ≡ Some d → slice_get xs place ≡ Some e → R d e) → AscendUpTo (place + 1)
  one_more place some a h = record { each = λ k d e lt f g. by_place k d e (cases_lt (suc k) place) (omega arith) f g }
    where
      by_place : (k : ℕ) (d e : X) → (suc k < place) ⊎ (place ≤ suc k) → suc k < place + 1 → slice_get xs k ≡ Some d → slice_get xs (suc k) ≡ Some e → R d e
      by_place k d e (inl less) lt f g = a.each k d e less f g
      by_place k d e (inr more) lt f g =
          let behind : place ≡ suc k = omega arith in
          let before : place - 1 ≡ k = omega arith in
          h d e (rw before f) (rw behind g)

  module _ (through : (a b c : X) → R a b → R b c → R a c) (n : ℕ) (long : length xs ≤ n) (a : AscendUpTo n) where
    next : (k : ℕ) (d : X) → suc k < length xs → R (get_or xs k d) (get_or xs (suc k) d)
    next k d lt = a.each k (get_or xs k d) (get_or xs (suc k) d) (omega arith) (slice_get-get_or xs k d (omega arith)) (slice_get-get_or xs (suc k) d lt)

    far : (i m : ℕ) (d : X) → i + suc m < length xs → R (get_or xs i d) (get_or xs (i + suc m) d)
    far i zero d lt = let e : i + suc zero ≡ suc i = omega arith in rw e (next i d (omega arith))
    far i (suc m) d lt =
        let e : i + suc (suc m) ≡ suc (i + suc m) = omega arith in
        rw e (through (get_or xs i d) (get_or xs (i + suc m) d) (get_or xs (suc (i + suc m)) d) (far i m d (omega arith)) (next (i + suc m) d (omega arith)))

    pub all_ascend : AllPairs R xs
    all_ascend i j d lt within =
        let e : i + suc (j - suc i) ≡ j = omega arith in
        subst (λ k. R (get_or xs i d) (get_or xs k d)) e (far i (j - suc i) d (omega arith))

  pub ascend_at : AllPairs R xs → (k : ℕ) (d e : X) → 0 < k → slice_get xs (k - 1) ≡ Some d → slice_get xs k ≡ Some e → R d e
  ascend_at p k d e some f g =
      let one = get_or_from_slice_get xs (k - 1) d d f in
      let two = get_or_from_slice_get xs k e d g in
      let l = slice_get_within xs k e g in
      subst (λ x. R x e) one (subst (λ y. R (get_or xs (k - 1) d) y) two (p (k - 1) k d (omega arith) l))
