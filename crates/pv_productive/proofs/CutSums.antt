-- Sums of sizes, cut.
use Rattle.std.specs.Prelude.{min}
use Rattle.std.proofs.Common.{arith, if◌then◌else◌, inl, inr, ℕ, ◌<◌, ◌≡◌, ◌≤◌, ap}
use Rattle.std.proofs.lemmas.Bool.{cases_lt, le-leb, lt-leb}
use Rattle.pv_rules.specs.Derivations.{heaviest}
use Rattle.pv_productive.specs.Tables.{capped, no_size}

pub cut_many : (n : ℕ) → no_size ≤ n → capped n ≡ no_size
cut_many n l = ap (λ b. if b then no_size else min heaviest n) (le-leb no_size n l)

pub cut_few : (n : ℕ) → n < no_size → capped n ≡ min heaviest n
cut_few n l = ap (λ b. if b then no_size else min heaviest n) (lt-leb no_size n l)

pub cut_below : (n : ℕ) → capped n < no_size → n < no_size
cut_below n l = elim (cases_lt n no_size) [ inl lt ↦ lt | inr le ↦ absurd (let e = cut_many n le in omega arith) ]

pub cut_least : (n : ℕ) → capped n ≤ no_size
cut_least n = elim (cases_lt n no_size) [ inl lt ↦ (let e = cut_few n lt in omega arith) | inr le ↦ (let e = cut_many n le in omega arith) ]

pub cut_mono : (m n : ℕ) → m ≤ n → capped m ≤ capped n
cut_mono m n l = elim (cases_lt n no_size) [
  | inl lt ↦ (let e = cut_few n lt in let f = cut_few m (omega arith) in omega arith)
  | inr le ↦ (let e = cut_many n le in let f = cut_least m in omega arith)
]
