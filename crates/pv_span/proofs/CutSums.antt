-- One place more at which a span is cut.
use Rattle.std.specs.Prelude.{min}
use Rattle.std.proofs.Common.{arith, inl, inr, suc, ℕ, ◌+◌, ◌<◌, ◌≡◌, ◌≤◌, ◌⊎◌}
use Rattle.std.proofs.lemmas.Bool.{cases_lt}
use Rattle.pv_productive.specs.Tables.{no_size}
use Rattle.pv_layout.specs.ColumnRules.{Cell, cell}
use Rattle.pv_span.specs.Least.{IsLeastCut}

last_or : (m p : ℕ) → m < suc p → (m < p) ⊎ (m ≡ p)
last_or m p l = elim (cases_lt m p) [ inl lt ↦ inl lt | inr le ↦ inr (omega arith) ]

pub less_or : (h k s : ℕ) → h ≡ min k s → (h ≡ k) ⊎ (h ≡ s)
less_or h k s e = elim (cases_lt k s) [ inl lt ↦ inl (omega arith) | inr le ↦ inr (omega arith) ]

module _ (t : Cell → ℕ) (one two i j low p k s h : ℕ) (l : IsLeastCut t one two i j low p k) (le : low ≤ p)
    (v : s ≤ t (cell one i p) + t (cell two p j)) (u : s < no_size → s ≡ t (cell one i p) + t (cell two p j)) (e : h ≡ min k s) where
  cut_below : (m : ℕ) → low ≤ m → (m < p) ⊎ (m ≡ p) → h ≤ t (cell one i m) + t (cell two m j)
  cut_below m a (inl lt) = let z = l.below m a lt in omega arith
  cut_below m a (inr f) = rw f (omega arith)

  cut_attained : h < no_size → (h ≡ k) ⊎ (h ≡ s) → (m : ℕ) × (low ≤ m) × (m < suc p) × (h ≡ t (cell one i m) + t (cell two m j))
  cut_attained few (inl f) = let a = l.attained (omega arith) in (a.0, a.1, let z = a.2 in omega arith, let z = a.3 in omega arith)
  cut_attained few (inr f) = (p, le, omega arith, let z = u (omega arith) in omega arith)

  pub cut_more : (q : ℕ) → q ≡ suc p → IsLeastCut t one two i j low q h
  cut_more q f = rw f (record { below = λ m a b. cut_below m a (last_or m p b); attained = λ few. cut_attained few (less_or h k s e) })

-- the one cut of an empty span
pub cut_alone : (t : Cell → ℕ) (one two i j s : ℕ) → i ≡ j → s ≤ t (cell one i i) + t (cell two i j) → (s < no_size → s ≡ t (cell one i i) + t (cell two i j)) → IsLeastCut t one two i j i (suc j) s
cut_alone t one two i j s e v u = record {
  below = λ m a b. let z : m ≡ i = omega arith in rw z v;
  attained = λ few. (i, omega arith, omega arith, u few);
}
