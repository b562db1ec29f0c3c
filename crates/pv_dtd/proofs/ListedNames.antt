-- The listed names that were read, and those that are still to come.
use Rattle.std.proofs.Common.{◌≡◌, ◌<◌, ℕ, zero, suc, List, [], ◌∷◌, ◌++◌, length, codes, Option, Some, None, refl, sym, ap, ◌∙◌, append_assoc, append-nil, arith}
use Rattle.pv_chars.specs.Scan.{◌>>=◌, after_space, after_bytes}
use Rattle.pv_chars.specs.CharReading.{name_at}
use Rattle.pv_dtd.specs.ItemReading.{listed_at}

-- these, and then the others
abbrev with_front : List (List ℕ) → Option (List (List ℕ) × List ℕ) → Option (List (List ℕ) × List ℕ)
with_front front others = others >>= λ more. Some (front ++ more.0, more.1)

-- what was read and what is read after it are all that is read
pub record IsReadSoFar (bytes : List ℕ) (front : List (List ℕ)) (rest : List ℕ) : Type 0 where
  pub steps : ℕ
  pub enough : length rest < suc steps
  pub same : with_front front (listed_at (suc steps) rest) ≡ listed_at (suc (length bytes)) bytes

front_none : (o : Option (List (List ℕ) × List ℕ)) → with_front [] o ≡ o
front_none None = refl
front_none (Some more) = refl

front_push : (front : List (List ℕ)) (x : List ℕ) (o : Option (List (List ℕ) × List ℕ)) → with_front (front ++ x ∷ []) o ≡ with_front front (o >>= λ more. Some (x ∷ more.0, more.1))
front_push front x None = refl
front_push front x (Some more) = ap (λ xs. Some (xs, more.1)) (append_assoc front (x ∷ []) more.0)

pub so_far_none : (bytes : List ℕ) → IsReadSoFar bytes [] bytes
so_far_none bytes = record { steps = length bytes; enough = omega arith; same = front_none (listed_at (suc (length bytes)) bytes) }

more_steps : (bytes : List ℕ) (front : List (List ℕ)) (rest : List ℕ) (steps : ℕ) →
    length rest < steps → with_front front (listed_at steps rest) ≡ listed_at (suc (length bytes))
    bytes → IsReadSoFar bytes front rest
more_steps bytes front rest zero few same = absurd (omega arith)
more_steps bytes front rest (suc steps) few same = record { steps = steps; enough = few; same = same }

module _ (bytes : List ℕ) (front : List (List ℕ)) (rest place : List ℕ) (so_far : IsReadSoFar bytes front rest) (at : place ≡ after_space rest) where
  pub no_more : None ≡ after_bytes (codes "|") place → Some (front, place) ≡ listed_at (suc (length bytes)) bytes
  unfolding listed_at
  no_more none = sym (sym so_far.same ∙ rw (← at, ← none) (ap (λ ys. Some (ys, place)) (append-nil front)))

  module _ (after : List ℕ) (next : Some after ≡ after_bytes (codes "|") place) (inner : List ℕ) (inner_at : inner ≡ after_space after) where
    pub no_name : None ≡ name_at inner → None ≡ listed_at (suc (length bytes)) bytes
    unfolding listed_at
    no_name none = sym (sym so_far.same ∙ rw (← at, ← next, ← inner_at, ← none) refl)

    step : (name behind : List ℕ) → Some (name, behind) ≡ name_at inner → listed_at (suc so_far.steps) rest ≡ (listed_at so_far.steps behind >>= λ more. Some (name ∷ more.0, more.1))
    unfolding listed_at
    step name behind read = rw (← at, ← next, ← inner_at, ← read) refl

    pub one_more : (name behind : List ℕ) → Some (name, behind) ≡ name_at inner → length behind < length rest → IsReadSoFar bytes (front ++ name ∷ []) behind
    one_more name behind read shorter = more_steps bytes (front ++ name ∷ []) behind so_far.steps
        (omega (arith, so_far.enough)) (front_push front name (listed_at so_far.steps behind)
        ∙ ap (with_front front) (sym (step name behind read)) ∙ so_far.same)
