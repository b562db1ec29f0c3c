-- Parts of a text, read from the left.
use Rattle.std.specs.Prelude.{ℕ, ◌+◌, List, [], ◌∷◌, take, drop, ◌==◌, if◌then◌else◌, Option, Some}
use Rattle.std.specs.Prelude.{None, option_and_then}
use Rattle.pv_chars.specs.Spaces.{is_space}

infixl 10 ◌>>=◌
abbrev pub ◌>>=◌ : {A B : Type 0} → Option A → (A → Option B) → Option B
o >>= f = option_and_then f o

-- how many bytes at the front are white space
abbrev pub space_length : List ℕ → ℕ
space_length [] = 0
space_length (b ∷ bs) = if is_space b then space_length bs + 1 else 0

-- what stands after the white space at the front
abbrev pub after_space : List ℕ → List ℕ
after_space [] = []
after_space (b ∷ bs) = if is_space b then after_space bs else b ∷ bs

-- what stands after the white space at the front, where there is some
unfoldable pub after_blank : List ℕ → Option (List ℕ)
after_blank [] = None
after_blank (b ∷ bs) = if is_space b then Some (after_space bs) else None

-- the bytes up to here, and those from here on
abbrev pub split : ℕ → List ℕ → List ℕ × List ℕ
split at bytes = (take at bytes, drop at bytes)

-- what stands after these bytes
abbrev pub after_bytes : List ℕ → List ℕ → Option (List ℕ)
after_bytes [] bytes = Some bytes
after_bytes (p ∷ ps) [] = None
after_bytes (p ∷ ps) (b ∷ bs) = if p == b then after_bytes ps bs else None
