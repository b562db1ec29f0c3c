-- Names in an input.
use Rattle.std.specs.Prelude.{◌≡◌, ℕ, List, [], ◌∷◌, ◌++◌}
use Rattle.std.specs.List.{AllByRecursion}

-- names, each with the NUL that ends it
abbrev pub ended : List (List ℕ) → List ℕ
ended [] = []
ended (name ∷ names) = name ++ (0 ∷ ended names)

-- none of the bytes is a NUL
abbrev pub HasNoNul : List ℕ → Type 0
HasNoNul bytes = AllByRecursion (λ b. b ≡ 0 → ⊥) bytes

-- the bytes are these names, each ended by a NUL, and then a rest that none ends
pub record AreNames (bytes : List ℕ) (names : List (List ℕ)) (rest : List ℕ) : Type 0 where
  pub are_bytes : bytes ≡ ended names ++ rest
  pub whole : AllByRecursion HasNoNul names
  pub unended : HasNoNul rest

-- the name that such a rest is at the end of an input; none where it has no byte
abbrev pub last_name : List ℕ → List (List ℕ)
last_name [] = []
last_name (byte ∷ bytes) = (byte ∷ bytes) ∷ []

-- these names stand in the bytes, from the first on
pub record StandInOrder (bytes : List ℕ) (names : List (List ℕ)) : Type 0 where
  pub all : List (List ℕ)
  pub rest : List ℕ
  pub more : List (List ℕ)
  pub are_names : AreNames bytes all rest
  pub are_first : all ++ last_name rest ≡ names ++ more
