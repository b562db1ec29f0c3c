-- The first LF of some bytes, as a search tells it.
use Rattle.std.proofs.Common.{◌≡◌, ℕ, suc, zero, ◌<◌, List, [], ◌∷◌, ◌++◌, length, take, drop, ap, arith}
use Rattle.std.proofs.lemmas.List.{take_all}
use Rattle.memchr.specs.Find.{Nowhere, Passes, is_byte}
use Rattle.pv_words.specs.Lines.{FEED, HasNoFeed}

-- no LF stands in the first n bytes
abbrev pub NoFeed : List ℕ → ℕ → Type 0
NoFeed bs n = Nowhere (Passes (is_byte 10) bs) 0 n

pub front_free : (bs : List ℕ) (n : ℕ) → NoFeed bs n → HasNoFeed (take n bs)
front_free [] zero free = tt
front_free [] (suc n) free = tt
front_free (b ∷ bs) zero free = tt
front_free (b ∷ bs) (suc n) free =
    (λ is. free 0 (omega arith) (omega arith) (grind (arith, is)), front_free bs n (λ k low high p. free (suc k) (omega arith) (omega arith) p))

-- the bytes before the first LF, and those after it
pub all_free : (bs : List ℕ) → NoFeed bs (length bs) → HasNoFeed bs
all_free bs free = rw (take_all (length bs) bs (omega arith)) at (front_free bs (length bs) free)

pub cut_at : (bs : List ℕ) (n : ℕ) → n < length bs → Passes (is_byte 10) bs n → bs ≡ take n bs ++ FEED ∷ drop (suc n) bs
cut_at [] n within feed = absurd (omega arith)
cut_at (b ∷ bs) zero within feed = let is : b ≡ 10 = grind arith in ap (λ (c : ℕ). c ∷ bs) is
cut_at (b ∷ bs) (suc n) within feed = ap (λ (h : List ℕ). b ∷ h) (cut_at bs n (omega arith) feed)
