-- Values that don't fall, found place by place.
use Rattle.std.proofs.Common.{List, Some, arith, inl, inr, length, slice_get, subst, suc, ℕ, ◌<◌, ◌≡◌, ◌≤◌, ◌⊎◌}
use Rattle.std.proofs.lemmas.Bool.{cases_lt}
use Rattle.std.proofs.lemmas.Option.{slice_get_within}
use Rattle.pv_denial.specs.Rows.{AreRisingValues}

same_value : (values : List ℕ) (i u v : ℕ) → slice_get values i ≡ Some u → slice_get values i ≡ Some v → u ≡ v
same_value values i u v a b = cc

-- the values before a place don't fall; the last of them is this one, 0 where there is none
pub record RiseTo (values : List ℕ) (n place last : ℕ) : Type 0 where
  pub bounded : (i v : ℕ) → i < place → slice_get values i ≡ Some v → (i ≤ v) × (v ≤ n)
  pub rising : (i j u v : ℕ) → i ≤ j → j < place → slice_get values i ≡ Some u → slice_get values j ≡ Some v → u ≤ v
  pub most : (i v : ℕ) → i < place → slice_get values i ≡ Some v → v ≤ last
  pub is_last : (last ≡ 0) ⊎ ((j : ℕ) × (j < place) × (slice_get values j ≡ Some last))

module _ (values : List ℕ) (n place last : ℕ) (is : RiseTo values n place last) where
  pub rise_more : (value next : ℕ) → slice_get values place ≡ Some value → next ≡ suc place → place ≤ value → value ≤ n → last ≤ value → RiseTo values n next value
  rise_more value next here z low high least = record {
    bounded = λ i v lt e. bounded_case i v e (omega arith) (cases_lt i place);
    rising = λ i j u v le lt a b. rising_case i j u v le a b (omega arith) (cases_lt j place) (cases_lt i place);
    most = λ i v lt e. most_case i v e (omega arith) (cases_lt i place);
    is_last = inr (place, omega arith, here);
  }
    where
      at_place : (i v : ℕ) → slice_get values i ≡ Some v → i ≡ place → v ≡ value
      at_place i v e y = let P : ℕ → Type 0 = λ k. slice_get values k ≡ Some v in same_value values place v value (subst P y e) here

      bounded_case : (i v : ℕ) → slice_get values i ≡ Some v → i < suc place → (i < place) ⊎ (place ≤ i) → (i ≤ v) × (v ≤ n)
      bounded_case i v e lt (inl before) = is.bounded i v before e
      bounded_case i v e lt (inr ge) = let y = at_place i v e (omega arith) in (omega arith, omega arith)

      most_case : (i v : ℕ) → slice_get values i ≡ Some v → i < suc place → (i < place) ⊎ (place ≤ i) → v ≤ value
      most_case i v e lt (inl before) = let y = is.most i v before e in omega arith
      most_case i v e lt (inr ge) = let y = at_place i v e (omega arith) in omega arith

      rising_case : (i j u v : ℕ) → i ≤ j → slice_get values i ≡ Some u → slice_get values j ≡ Some v → j < suc place → (j < place) ⊎ (place ≤ j) → (i < place) ⊎ (place ≤ i) → u ≤ v
      rising_case i j u v le a b lt (inl before) y = is.rising i j u v le before a b
      rising_case i j u v le a b lt (inr ge) (inl before) = let x = at_place j v b (omega arith) in let y = is.most i u before a in omega arith
      rising_case i j u v le a b lt (inr ge) (inr more) = let x = at_place j v b (omega arith) in let y = at_place i u a (omega arith) in omega arith

  pub rise_all : length values ≤ place → AreRisingValues values n
  rise_all le = record {
    bounded = λ i v e. is.bounded i v (let a = slice_get_within values i v e in omega arith) e;
    rising = λ i j u v less a b. is.rising i j u v less (let x = slice_get_within values j v b in omega arith) a b;
  }
