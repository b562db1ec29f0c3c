-- Numbers as text: decimal digits without leading zeros.
use Rattle.std.specs.Prelude.{◌≡◌, ◌≤◌, ◌&&◌, ℕ, nat_le, List, [], ◌∷◌, ◌++◌, codes, decimal}
use Rattle.std.specs.Prelude.{Option, Some, None, if◌then◌else◌}
use Rattle.std.specs.Char.{IsAsciiDigit}
use Rattle.std.specs.List.{AllByRecursion}
use Rattle.std.specs.Str.{bytes_eq}
use Rattle.std.specs.Str.Parse.{AllDigits, digits_value, digits_value_after}

-- the largest number that a line may hold
abbrev pub MAX_NUMBER : ℕ
MAX_NUMBER = 4294967295

-- each number is small enough for a line
abbrev pub AreNumbers : List ℕ → Type 0
AreNumbers numbers = AllByRecursion (λ n. n ≤ MAX_NUMBER) numbers

-- numbers in decimal digits, each after a blank
abbrev pub numbers_text : List ℕ → List ℕ
numbers_text [] = []
numbers_text (n ∷ ns) = codes " " ++ decimal n ++ numbers_text ns

-- the number that is written so
abbrev pub number_spelled : List ℕ → Option ℕ
number_spelled word =
    if bytes_eq (decimal (digits_value 10 word)) word && nat_le (digits_value 10 word) MAX_NUMBER
    then Some (digits_value 10 word) else None

-- no digit stands at the front
abbrev pub BeginsNoDigit : List ℕ → Type 0
BeginsNoDigit [] = Unit {0}
BeginsNoDigit (b ∷ bs) = IsAsciiDigit b → ⊥

-- A number stands at the front by all digits that do, and this after it.
pub record IsNumberAt (bytes : List ℕ) (n : ℕ) (rest : List ℕ) : Type 0 where
  pub within : n ≤ MAX_NUMBER
  pub whole : bytes ≡ decimal n ++ rest
  pub ended : BeginsNoDigit rest

-- All digits at the front, after those of a first number, make that one this number; and this
-- stands after them.
pub record GoesOnTo (first : ℕ) (bytes : List ℕ) (n : ℕ) (rest : List ℕ) : Type 0 where
  pub digits : List ℕ
  pub are_digits : AllDigits 10 digits
  pub value : n ≡ digits_value_after 10 first digits
  pub within : n ≤ MAX_NUMBER
  pub whole : bytes ≡ digits ++ rest
  pub ended : BeginsNoDigit rest

-- A number stands at the front, then this byte, and this after it.
pub record IsNumberThen (stop : ℕ) (bytes : List ℕ) (n : ℕ) (rest : List ℕ) : Type 0 where
  pub within : n ≤ MAX_NUMBER
  pub whole : bytes ≡ decimal n ++ (stop ∷ rest)

-- a number, a blank, and this
abbrev pub IsNumberBefore : List ℕ → ℕ → List ℕ → Type 0
IsNumberBefore bytes n rest = IsNumberThen 32 bytes n rest
