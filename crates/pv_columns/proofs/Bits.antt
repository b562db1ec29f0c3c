-- The bits of two words joined.
use Rattle.std.specs.Prelude.{bit_or}
use Rattle.std.proofs.Common.{arith, inl, inr, refl, suc, zero, ℕ, ◌/◌, ◌^◌, ◌<◌, ◌∙◌, ◌≡◌, ◌⊎◌}
use Rattle.std.proofs.lemmas.Nat.{mod_below, or_mod, or_shr}
use Rattle.pv_columns.specs.Bits.{bit}

pub or_bit : (a b k : ℕ) → bit (bit_or a b) k ≡ bit_or (bit a k) (bit b k)
or_bit a b k = let e = or_shr a b k in rw e (or_mod (a / 2 ^ k) (b / 2 ^ k) 1)

bit_small : (n k : ℕ) → bit n k < 2
bit_small n k = mod_below (n / 2 ^ k) 2 (omega arith)

small : (x y : ℕ) → x < 2 → y < 2 → bit_or x y ≡ 1 → (x ≡ 1) ⊎ (y ≡ 1)
small zero zero l m e = absurd (omega arith)
small (suc zero) y l m e = inl refl
small zero (suc zero) l m e = inr refl
small (suc (suc x)) y l m e = absurd (omega arith)
small zero (suc (suc y)) l m e = absurd (omega arith)

one_left : (y : ℕ) → y < 2 → bit_or 1 y ≡ 1
one_left zero l = refl
one_left (suc zero) l = refl
one_left (suc (suc y)) l = absurd (omega arith)

one_right : (x : ℕ) → x < 2 → bit_or x 1 ≡ 1
one_right zero l = refl
one_right (suc zero) l = refl
one_right (suc (suc y)) l = absurd (omega arith)

-- a bit of the join is a bit of one, and the other way
pub of_or : (a b k : ℕ) → bit (bit_or a b) k ≡ 1 → (bit a k ≡ 1) ⊎ (bit b k ≡ 1)
of_or a b k e = small (bit a k) (bit b k) (bit_small a k) (bit_small b k) (let z = or_bit a b k in cc)

pub or_left : (a b k : ℕ) → bit a k ≡ 1 → bit (bit_or a b) k ≡ 1
or_left a b k e = or_bit a b k ∙ rw e (one_left (bit b k) (bit_small b k))

pub or_right : (a b k : ℕ) → bit b k ≡ 1 → bit (bit_or a b) k ≡ 1
or_right a b k e = or_bit a b k ∙ rw e (one_right (bit a k) (bit_small a k))
