-- A line cut before the CR bytes at its end.
use Rattle.std.proofs.Common.{◌≡◌, ℕ, suc, zero, ◌<◌, List, [], ◌∷◌, get_or, length, take, ap, arith}
use Rattle.pv_words.specs.Lines.{with_byte_before, without_returns}

-- a CR after the first n bytes is dropped
pub without_returns-return : (xs : List ℕ) (n : ℕ) → n < length xs → get_or xs n 0 ≡ 13 → without_returns (take n xs) ≡ without_returns (take (suc n) xs)
without_returns-return [] n within last = absurd (omega arith)
without_returns-return (x ∷ xs) zero within last = grind arith
without_returns-return (x ∷ xs) (suc n) within last =
    ap (with_byte_before x) (without_returns-return xs n (omega arith) last)

-- a line that ends with another byte stays as it is
pub without_returns-other : (xs : List ℕ) (n : ℕ) → n < length xs → (get_or xs n 0 ≡ 13 → ⊥) → without_returns (take (suc n) xs) ≡ take (suc n) xs
without_returns-other [] n within last = absurd (omega arith)
without_returns-other (x ∷ xs) zero within last = grind arith
without_returns-other (x ∷ []) (suc n) within last = absurd (omega arith)
without_returns-other (x ∷ y ∷ ys) (suc n) within last =
    ap (with_byte_before x) (without_returns-other (y ∷ ys) n (omega arith) last)
