-- The XML declaration and the text declaration (XML 1.0, sections 2.8, 2.9, 4.3.1 and 4.3.3).
use Rattle.std.specs.Prelude.{◌≡◌, ◌≢◌, ◌⊎◌, ℕ, Bool, ◌||◌, ◌==◌, List, [], ◌∷◌, ◌++◌, codes, map}
use Rattle.std.specs.Prelude.{nat_eq, IsTrue}
use Rattle.std.specs.List.{list_all, list_any}
use Rattle.std.specs.Char.{to_ascii_lowercase, is_ascii_digit}
use Rattle.pv_chars.specs.Spaces.{IsSpace, IsOptionalSpace}
use Rattle.pv_chars.specs.Fronts.{BeginsNone, ContainsBytes}

-- a double or a single quote
abbrev pub is_quote : ℕ → Bool
is_quote b = (b == 34) || (b == 39)

-- one of these bytes
abbrev pub is_one_of : List ℕ → ℕ → Bool
is_one_of bytes b = list_any (nat_eq b) bytes

-- A value in a pair of quotes, which it doesn't hold.
pub record IsQuoted (value bytes : List ℕ) : Type 0 where
  pub quote : ℕ
  pub is_quote : IsTrue (is_quote quote)
  pub not_inside : ContainsBytes value (quote ∷ []) → ⊥
  pub whole : bytes ≡ quote ∷ (value ++ quote ∷ [])

-- Eq: S? '=' S? (XML 1.0, 2.8)
pub record IsEq (bytes : List ℕ) : Type 0 where
  pub before : List ℕ
  pub after : List ℕ
  pub space_before : IsOptionalSpace before
  pub space_after : IsOptionalSpace after
  pub whole : bytes ≡ before ++ (codes "=" ++ after)

-- S, the word, Eq, and this value in quotes
pub record IsPart (word value bytes : List ℕ) : Type 0 where
  pub space : List ℕ
  pub equals : List ℕ
  pub quoted : List ℕ
  pub is_space : IsSpace space
  pub is_eq : IsEq equals
  pub is_quoted : IsQuoted value quoted
  pub whole : bytes ≡ space ++ (word ++ (equals ++ quoted))

-- VersionNum: `1.` and one or more digits (XML 1.0, 2.8)
pub record IsVersionNum (value : List ℕ) : Type 0 where
  pub digits : List ℕ
  pub some : digits ≢ []
  pub are_digits : IsTrue (list_all is_ascii_digit digits)
  pub whole : value ≡ codes "1." ++ digits

-- EncName: here UTF-8 or US-ASCII, in any case (XML 1.0, 4.3.3)
abbrev pub IsEncName : List ℕ → Type 0
IsEncName value = (map to_ascii_lowercase value ≡ codes "utf-8") ⊎
    (map to_ascii_lowercase value ≡ codes "us-ascii")

-- yes or no
abbrev pub IsYesOrNo : List ℕ → Type 0
IsYesOrNo value = (value ≡ codes "yes") ⊎ (value ≡ codes "no")

-- such a part with such a value
abbrev pub IsPartOf : List ℕ → (List ℕ → Type 0) → List ℕ → Type 0
IsPartOf word IsValue bytes = (value : List ℕ) × IsValue value × IsPart word value bytes

-- VersionInfo (XML 1.0, 2.8)
abbrev pub IsVersionInfo : List ℕ → Type 0
IsVersionInfo = IsPartOf (codes "version") IsVersionNum

-- EncodingDecl (XML 1.0, 4.3.3)
abbrev pub IsEncodingDecl : List ℕ → Type 0
IsEncodingDecl = IsPartOf (codes "encoding") IsEncName

-- SDDecl (XML 1.0, 2.9)
abbrev pub IsStandaloneDecl : List ℕ → Type 0
IsStandaloneDecl = IsPartOf (codes "standalone") IsYesOrNo

-- nothing, or such an item
abbrev pub IsOptional : (List ℕ → Type 0) → List ℕ → Type 0
IsOptional IsItem bytes = (bytes ≡ []) ⊎ IsItem bytes

-- TextDecl, in this project's profile: `<?xml`, then VersionInfo, EncodingDecl and SDDecl, each of
-- which may be left out, but not all, S? and `?>` (XML 1.0, 4.3.1)
pub record IsTextDecl (bytes : List ℕ) : Type 0 where
  pub version : List ℕ
  pub encoding : List ℕ
  pub standalone : List ℕ
  pub space : List ℕ
  pub is_version : IsOptional IsVersionInfo version
  pub is_encoding : IsOptional IsEncodingDecl encoding
  pub is_standalone : IsOptional IsStandaloneDecl standalone
  pub some : version ++ (encoding ++ standalone) ≢ []
  pub is_space : IsOptionalSpace space
  pub whole : bytes ≡ codes "<?xml" ++
      (version ++ (encoding ++ (standalone ++ (space ++ codes "?>"))))

-- XMLDecl: `<?xml`, VersionInfo, EncodingDecl and SDDecl, each of which may be left out, S? and
-- `?>` (XML 1.0, 2.8)
pub record IsXmlDecl (bytes : List ℕ) : Type 0 where
  pub version : List ℕ
  pub encoding : List ℕ
  pub standalone : List ℕ
  pub space : List ℕ
  pub is_version : IsVersionInfo version
  pub is_encoding : IsOptional IsEncodingDecl encoding
  pub is_standalone : IsOptional IsStandaloneDecl standalone
  pub is_space : IsOptionalSpace space
  pub whole : bytes ≡ codes "<?xml" ++
      (version ++ (encoding ++ (standalone ++ (space ++ codes "?>"))))

-- no value in quotes stands at the front
abbrev pub BeginsNoQuoted : List ℕ → Type 0
BeginsNoQuoted bytes = (value : List ℕ) → BeginsNone (IsQuoted value) bytes

-- no part with this word stands at the front
abbrev pub BeginsNoPart : List ℕ → List ℕ → Type 0
BeginsNoPart word bytes = (value : List ℕ) → BeginsNone (IsPart word value) bytes
