-- References (XML 1.0, section 4.1).
use Rattle.std.specs.Prelude.{◌≡◌, ◌≢◌, ◌⊎◌, ℕ, ◌+◌, ◌*◌, min, List, [], ◌∷◌, ◌++◌, codes, IsTrue}
use Rattle.std.specs.List.{list_all}
use Rattle.std.specs.Char.{is_digit, digit_value}
use Rattle.pv_chars.specs.Characters.{is_char}
use Rattle.pv_chars.specs.Names.{IsName}
use Rattle.pv_chars.specs.Fronts.{BeginsNone}

-- the number that these digits write in this base after one
abbrev pub number_behind : ℕ → ℕ → List ℕ → ℕ
number_behind base n [] = n
number_behind base n (d ∷ ds) = number_behind base (n * base + digit_value d) ds

-- the number that these digits write in this base
abbrev pub number : ℕ → List ℕ → ℕ
number base digits = number_behind base 0 digits

-- A reference by digits in this base after this front: one or more, with any number of leading
-- zeros, that write the code point of a Char.
pub record IsCharRefIn (base : ℕ) (front bytes : List ℕ) : Type 0 where
  pub digits : List ℕ
  pub some : digits ≢ []
  pub are_digits : IsTrue (list_all (λ d. is_digit d base) digits)
  pub is_char : IsTrue (is_char (number base digits))
  pub whole : bytes ≡ front ++ (digits ++ codes ";")

-- CharRef: `&#` and decimal digits, or `&#x` and hexadecimal ones, `;` (XML 1.0, 4.1)
abbrev pub IsCharRef : List ℕ → Type 0
IsCharRef bytes = IsCharRefIn 10 (codes "&#") bytes ⊎ IsCharRefIn 16 (codes "&#x") bytes

-- EntityRef: `&`, this Name, `;` (XML 1.0, 4.1)
pub record IsEntityRef (name bytes : List ℕ) : Type 0 where
  pub is_name : IsName name
  pub whole : bytes ≡ codes "&" ++ (name ++ codes ";")

-- one of the five names that need no declaration (XML 1.0, 4.6)
abbrev pub IsPredefined : List ℕ → Type 0
IsPredefined name = (name ≡ codes "lt") ⊎
    ((name ≡ codes "gt") ⊎
    ((name ≡ codes "amp") ⊎ ((name ≡ codes "apos") ⊎ (name ≡ codes "quot"))))

-- Reference: a CharRef or an EntityRef of any name (XML 1.0, 4.1)
abbrev pub IsReference : List ℕ → Type 0
IsReference bytes = IsCharRef bytes ⊎ ((name : List ℕ) × IsEntityRef name bytes)

-- no EntityRef stands at the front
abbrev pub BeginsNoEntityRef : List ℕ → Type 0
BeginsNoEntityRef bytes = (name : List ℕ) → BeginsNone (IsEntityRef name) bytes

-- more than the code point of any character
abbrev pub PAST_CHARS : ℕ
PAST_CHARS = 0x110000

-- As many digits in this base as stand at the front, which this follows; the number that they
-- write is this, or past all characters where it is.
pub record TakesDigits (base : ℕ) (bytes rest : List ℕ) (value : ℕ) : Type 0 where
  pub digits : List ℕ
  pub are_digits : IsTrue (list_all (λ d. is_digit d base) digits)
  pub whole : bytes ≡ digits ++ rest
  pub ends : (d : ℕ) (more : List ℕ) → IsTrue (is_digit d base) → rest ≢ d ∷ more
  pub value_is : value ≡ min (number base digits) PAST_CHARS
