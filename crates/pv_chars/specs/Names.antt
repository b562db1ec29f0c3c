-- Names (XML 1.0, section 2.3).
use Rattle.std.specs.Prelude.{◌≡◌, ℕ, Bool, false, ◌&&◌, List, [], ◌∷◌, ◌++◌, IsTrue, encode_utf8}
use Rattle.std.specs.List.{list_all}
use Rattle.std.specs.Str.{chars, is_utf8}
use Rattle.pv_chars.specs.Characters.{is_name_start, is_name_char, AreAll, BeginsNo}

-- Name: one NameStartChar, and then any number of NameChars (XML 1.0, 2.3)
pub record IsName (bytes : List ℕ) : Type 0 where
  pub first : ℕ
  pub others : List ℕ
  pub is_start : IsTrue (is_name_start first)
  pub are_name_chars : AreAll is_name_char others
  pub whole : bytes ≡ encode_utf8 first ++ others

-- This Name stands at the front, the longest there, and this stands after it.
pub record TakesName (bytes name rest : List ℕ) : Type 0 where
  pub is_name : IsName name
  pub whole : bytes ≡ name ++ rest
  pub ends : BeginsNo is_name_char rest

-- no Name stands at the front
abbrev pub BeginsNoName : List ℕ → Type 0
BeginsNoName bytes = (name rest : List ℕ) → IsName name → bytes ≡ name ++ rest → ⊥

-- a NameStartChar, and then NameChars
abbrev pub are_name_codes : List ℕ → Bool
are_name_codes [] = false
are_name_codes (c ∷ cs) = is_name_start c && list_all is_name_char cs

-- whether the bytes are a Name: UTF-8 of a NameStartChar and then NameChars (XML 1.0, 2.3)
abbrev pub is_name : List ℕ → Bool
is_name bytes = is_utf8 bytes && are_name_codes (chars bytes)
