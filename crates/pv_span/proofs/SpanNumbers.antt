-- The numbers of spans: those of spans within a span are lower.
use Rattle.std.proofs.Common.{arith, inl, inr, suc, zero, ℕ, ◌*◌, ◌+◌, ◌-◌, ◌/◌, ◌<◌, ◌≡◌, ◌≤◌, ◌⊎◌}
use Rattle.std.proofs.lemmas.Bool.{cases_lt}
use Rattle.pv_span.specs.Charts.{span_number, spans_before}

pub halved : (k : ℕ) → k * (k + 1) / 2 ≡ spans_before k
halved zero = omega arith
halved (suc k) = let h = halved k in grind arith

-- more places, more spans
pub more_spans : (a b : ℕ) → a ≤ b → spans_before a ≤ spans_before b
more_spans a zero l = let z : a ≡ zero = omega arith in rw z (omega arith)
more_spans a (suc b) l = elim (cases_lt b a) [
  | inl lt ↦ (let z : a ≡ suc b = omega arith in rw z (omega arith))
  | inr le ↦ (let h = more_spans a b le in omega arith)
]

pub later_spans : (a b : ℕ) → a < b → spans_before a + suc a ≤ spans_before b
later_spans a b l = more_spans (suc a) b l

-- a span within another is not after it, and before it where they differ
pub within : (n i j a b : ℕ) → i ≤ a → a ≤ b → b ≤ j → j ≤ n → span_number n a b ≤ span_number n i j
within n i j a b p q r s = elim (cases_lt i a) [
  | inl lt ↦ (let h = later_spans (n - a) (n - i) (omega arith) in omega arith)
  | inr le ↦ (let z : a ≡ i = omega arith in rw z (omega arith))
]

pub strictly_within : (n i j a b : ℕ) → i ≤ a → a ≤ b → b ≤ j → j ≤ n → (i < a) ⊎ (b < j) → span_number n a b < span_number n i j
strictly_within n i j a b p q r s (inl lt) = let h = later_spans (n - a) (n - i) (omega arith) in omega arith
strictly_within n i j a b p q r s (inr lt) = elim (cases_lt i a) [
  | inl l ↦ (let h = later_spans (n - a) (n - i) (omega arith) in omega arith)
  | inr le ↦ (let z : a ≡ i = omega arith in rw z (omega arith))
]

-- all spans from a later place come before a span
pub later_before : (n i j k : ℕ) → i < j → j ≤ n → span_number n i j < k → span_number n j n < k
later_before n i j k p q l = let h = later_spans (n - j) (n - i) (omega arith) in omega arith

-- the span after one from the same place, and the first one from the place before
pub next_number : (n i j : ℕ) → i ≤ j → span_number n i (suc j) ≡ suc (span_number n i j)
next_number n i j l = omega arith

pub first_number : (n i : ℕ) → suc i ≤ n → span_number n i i ≡ suc (span_number n (suc i) n)
first_number n i l = let z : n - i ≡ suc (n - suc i) = omega arith in rw z (omega arith)

few_case : (k : ℕ) → k ≤ 8192 → spans_before k ≤ k * 8192
few_case zero l = omega arith
few_case (suc k) l = let h = few_case k (omega arith) in omega arith

pub few_spans : (k : ℕ) → k < 8192 → spans_before k < 67108864
few_spans k l = let h = few_case k (omega arith) in omega arith

-- how many spans there are in all
pub few_in_all : (n k : ℕ) → n < 8192 → k ≡ span_number n 0 n → (k + 1 < 134217728) × (k + 1 ≡ spans_before n + suc n)
few_in_all n k l e =
    let z : n - 0 ≡ n = omega arith in
    let f = rw z at e in
    let h = few_spans n l in (omega arith, omega arith)
