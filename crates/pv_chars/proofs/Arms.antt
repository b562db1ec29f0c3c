-- The first of some bytes and the others, as a pattern gives them.
use Rattle.std.proofs.Common.{◌≡◌, ℕ, ◌-◌, ◌≤◌, List, [], ◌∷◌, length, get_or, take, drop, take_all, sym, ap, arith}

pub others_of : (b : ℕ) (more : List ℕ) → take (length (b ∷ more) - 1) (drop 1 (b ∷ more)) ≡ more
others_of b more = take_all (length (b ∷ more) - 1) more (omega arith)

pub cons_of : (bytes : List ℕ) → 1 ≤ length bytes → bytes ≡ get_or bytes 0 0 ∷ take (length bytes - 1) (drop 1 bytes)
cons_of [] some = absurd (omega arith)
cons_of (b ∷ more) some = ap (λ l. b ∷ l) (sym (others_of b more))
