-- A list of values in which one was put.
use Rattle.std.specs.Prelude.{sum}
use Rattle.std.proofs.Common.{List, arith, get_or-set_other, get_or-set_same, inl, inr, length, set, ℕ, ◌<◌, ◌≡◌, ◌≢◌, ◌⊎◌}
use Rattle.std.proofs.lemmas.Bool.{cases_lt}
use Rattle.std.proofs.lemmas.List.{get_or_default}
use Rattle.std.proofs.lemmas.List.Sums.{sum_by-set}
use Rattle.pv_productive.specs.Tables.{no_size, size_at}

pub same_or_not : (k i : ℕ) → (k ≡ i) ⊎ (k ≢ i)
same_or_not k i = elim (cases_lt k i) [ inl lt ↦ inr (omega arith) | inr le ↦ elim (cases_lt i k) [ inl lt ↦ inr (omega arith) | inr ge ↦ inl (omega arith) ] ]

-- what holds of each value, and of the new one at its number
pub each_cell : (P : ℕ → ℕ → Type 0) (cells : List ℕ) (n k : ℕ) → n < length cells → P n k → ((m : ℕ) → P m (size_at cells m)) → (m : ℕ) → P m (size_at (set cells n k) m)
each_cell P cells n k lt p all m = elim (same_or_not m n) [
  | inl e ↦ (let q : size_at (set cells n k) m ≡ k = rw e (get_or-set_same cells n k no_size lt) in rw q (rw e p))
  | inr ne ↦ (let q : size_at (set cells n k) m ≡ size_at cells m = rw get_or-set_other in rw q (all m))
]

pub cell_sum : (cells : List ℕ) (n k : ℕ) → n < length cells → k < size_at cells n → sum (set cells n k) < sum cells
cell_sum cells n k lt less = let e = sum_by-set (λ x. x) cells n k 0 lt in let d = get_or_default cells n no_size 0 lt in omega arith
