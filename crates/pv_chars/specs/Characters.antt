-- Characters by their code points (XML 1.0, section 2.2), those of names (section 2.3), and their
-- bytes in UTF-8.
use Rattle.std.specs.Prelude.{◌≡◌, ℕ, Bool, ◌&&◌, nat_le, nat_lt, List, [], ◌∷◌, ◌++◌, IsTrue}
use Rattle.std.specs.Prelude.{encode_utf8, encode_utf8_all}
use Rattle.std.specs.List.{list_all, list_any}
use Rattle.std.specs.Char.{IsScalar}

-- the code points from the first to the last
pub record Range : Type 0 where
  pub first : ℕ
  pub last : ℕ

abbrev pub from_to : ℕ → ℕ → Range
from_to first last = record { first = first; last = last }

abbrev pub is_within : ℕ → Range → Bool
is_within c r = nat_le r.first c && nat_le c r.last

-- one of the ranges holds the code point
abbrev pub is_in : List Range → ℕ → Bool
is_in ranges c = list_any (is_within c) ranges

-- Char (XML 1.0, 2.2)
abbrev pub char_ranges : List Range
char_ranges = from_to 0x9 0x9 ∷ from_to 0xA 0xA ∷ from_to 0xD 0xD ∷ from_to 0x20 0xD7FF ∷
    from_to 0xE000 0xFFFD ∷ from_to 0x10000 0x10FFFF ∷ []

-- NameStartChar: `:`, `A` to `Z`, `_`, `a` to `z`, and what other scripts begin names with (XML
-- 1.0, 2.3)
abbrev pub name_start_ranges : List Range
name_start_ranges =
    from_to 58 58 ∷ from_to 65 90 ∷ from_to 95 95 ∷ from_to 97 122
    ∷ from_to 0xC0 0xD6 ∷ from_to 0xD8 0xF6 ∷ from_to 0xF8 0x2FF ∷ from_to 0x370 0x37D
    ∷ from_to 0x37F 0x1FFF ∷ from_to 0x200C 0x200D ∷ from_to 0x2070 0x218F ∷ from_to 0x2C00 0x2FEF
    ∷ from_to 0x3001 0xD7FF ∷ from_to 0xF900 0xFDCF ∷ from_to 0xFDF0 0xFFFD ∷
    from_to 0x10000 0xEFFFF ∷ []

-- what a NameChar may be besides: `-`, `.`, `0` to `9`, and marks that combine (XML 1.0, 2.3)
abbrev pub other_name_ranges : List Range
other_name_ranges = from_to 45 45 ∷ from_to 46 46 ∷ from_to 48 57 ∷ from_to 0xB7 0xB7 ∷
    from_to 0x300 0x36F ∷ from_to 0x203F 0x2040 ∷ []

-- the code point is a Char (XML 1.0, 2.2)
abbrev pub is_char : ℕ → Bool
is_char c = is_in char_ranges c

-- a Char of ASCII
abbrev pub is_ascii_char : ℕ → Bool
is_ascii_char c = is_char c && nat_lt c 128

-- the code point is a NameStartChar (XML 1.0, 2.3)
abbrev pub is_name_start : ℕ → Bool
is_name_start c = is_in name_start_ranges c

-- the code point is a NameChar (XML 1.0, 2.3)
abbrev pub is_name_char : ℕ → Bool
is_name_char c = is_in (name_start_ranges ++ other_name_ranges) c

-- A code point stands at the front, in UTF-8's shortest form, and this stands after it. Surrogates
-- are no code points.
pub record BeginsWith (bytes : List ℕ) (c : ℕ) (rest : List ℕ) : Type 0 where
  pub scalar : IsScalar c
  pub whole : bytes ≡ encode_utf8 c ++ rest

-- no code point stands at the front
abbrev pub BeginsWithNone : List ℕ → Type 0
BeginsWithNone bytes = (c : ℕ) (rest : List ℕ) → BeginsWith bytes c rest → ⊥

-- no code point that passes the test stands at the front
abbrev pub BeginsNo : (ℕ → Bool) → List ℕ → Type 0
BeginsNo test bytes = (c : ℕ) (rest : List ℕ) → IsTrue (test c) → bytes ≡ encode_utf8 c ++ rest → ⊥

-- Code points that pass the test, one after the other, in UTF-8.
pub record AreAll (test : ℕ → Bool) (bytes : List ℕ) : Type 0 where
  pub codes : List ℕ
  pub pass : IsTrue (list_all test codes)
  pub spelled : bytes ≡ encode_utf8_all codes

-- Chars, one after the other (XML 1.0, 2.2)
abbrev pub IsChars : List ℕ → Type 0
IsChars bytes = AreAll is_char bytes

-- As many code points as pass the test stand at the front, and this stands after them.
pub record TakesChars (test : ℕ → Bool) (bytes rest : List ℕ) : Type 0 where
  pub front : List ℕ
  pub are_all : AreAll test front
  pub whole : bytes ≡ front ++ rest
  pub ends : BeginsNo test rest
