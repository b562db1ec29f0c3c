-- The words of a command line.
use Rattle.std.proofs.Common.{◌≡◌, ◌<◌, ◌≤◌, List, [], ◌∷◌, length, get_or, String, Global, refl}
use Rattle.std.proofs.Common.{arith}
use Rattle.pv_io.specs.Files.{byte_lists}

pub length-byte_lists : (words : List (String Global)) → length (byte_lists words) ≡ length words
length-byte_lists [] = refl
length-byte_lists (w ∷ ws) = simp (length-byte_lists ws)

pub four : {A : Type 0} (xs : List A) (a b c d : A) → 4 ≤ length xs → length xs < 5 →
    a ≡ get_or xs 0 a → b ≡ get_or xs 1 b → c ≡ get_or xs 2 c → d ≡ get_or xs 3 d →
    xs ≡ a ∷ b ∷ c ∷ d ∷ []
four [] a b c d more less p q r s = absurd (omega arith)
four (x ∷ []) a b c d more less p q r s = absurd (omega arith)
four (x ∷ y ∷ []) a b c d more less p q r s = absurd (omega arith)
four (x ∷ y ∷ z ∷ []) a b c d more less p q r s = absurd (omega arith)
four (x ∷ y ∷ z ∷ w ∷ []) a b c d more less p q r s = cc
four (x ∷ y ∷ z ∷ w ∷ v ∷ vs) a b c d more less p q r s = absurd (omega arith)
