-- References, attributes and character data (XML 1.0, sections 2.3, 2.4, 3.1 and 4.1). R says
-- which references may stand in them.
use Rattle.std.specs.Prelude.{◌≡◌, ◌≢◌, ◌⊎◌, ℕ, List, [], ◌∷◌, ◌++◌, codes, IsTrue}
use Rattle.std.specs.List.{AllByRecursion}
use Rattle.pv_chars.specs.Spaces.{IsSpace, IsOptionalSpace}
use Rattle.pv_chars.specs.Names.{IsName}
use Rattle.pv_chars.specs.Fronts.{ContainsBytes}
use Rattle.pv_chars.specs.Declarations.{is_quote, IsEq}
use Rattle.pv_chars.specs.References.{IsCharRef}
use Rattle.pv_chars.specs.Texts.{joined}
use Rattle.pv_chars.specs.Units.{IsLiteral, IsPredefinedRef}

-- a reference to a character, or to one of the five names that need no declaration (XML 1.0, 4.1,
-- 4.6)
abbrev pub IsKnownReference : List ℕ → Type 0
IsKnownReference bytes = IsCharRef bytes ⊎ IsPredefinedRef bytes

-- These bytes are such pieces, one after another.
pub record AreMadeOf (IsPiece : List ℕ → Type 0) (bytes : List ℕ) : Type 0 where
  pub pieces : List (List ℕ)
  pub are_pieces : AllByRecursion IsPiece pieces
  pub whole : bytes ≡ joined pieces

-- one Char other than `<`, `&` and this quote, or one such reference
abbrev pub IsValuePiece : ℕ → (List ℕ → Type 0) → List ℕ → Type 0
IsValuePiece quote R piece = (IsLiteral piece × (piece ≢ quote ∷ [])) ⊎ R piece

-- AttValue: pieces in a pair of double or single quotes (XML 1.0, 2.3)
pub record IsAttValue (R : List ℕ → Type 0) (bytes : List ℕ) : Type 0 where
  pub quote : ℕ
  pub value : List ℕ
  pub is_quote : IsTrue (is_quote quote)
  pub is_value : AreMadeOf (IsValuePiece quote R) value
  pub whole : bytes ≡ quote ∷ (value ++ quote ∷ [])

-- S and an Attribute: Name, Eq, AttValue (XML 1.0, 3.1)
pub record IsAttribute (R : List ℕ → Type 0) (bytes : List ℕ) : Type 0 where
  pub space : List ℕ
  pub name : List ℕ
  pub equals : List ℕ
  pub value : List ℕ
  pub is_space : IsSpace space
  pub is_name : IsName name
  pub is_eq : IsEq equals
  pub is_value : IsAttValue R value
  pub whole : bytes ≡ space ++ (name ++ (equals ++ value))

-- What stands between the name of a tag and its end: any number of attributes, and S?. Attributes
-- of one name may stand twice (XML 1.0, 3.1).
pub record IsAttributes (R : List ℕ → Type 0) (bytes : List ℕ) : Type 0 where
  pub attributes : List ℕ
  pub space : List ℕ
  pub are_attributes : AreMadeOf (IsAttribute R) attributes
  pub is_space : IsOptionalSpace space
  pub whole : bytes ≡ attributes ++ space

-- one Char other than `<` and `&`, or one such reference
abbrev pub IsTextPiece : (List ℕ → Type 0) → List ℕ → Type 0
IsTextPiece R piece = IsLiteral piece ⊎ R piece

-- character data with references: at least one piece, and no `]]>` (XML 1.0, 2.4, 4.1)
pub record IsCharacterData (R : List ℕ → Type 0) (bytes : List ℕ) : Type 0 where
  pub some : bytes ≢ []
  pub are_pieces : AreMadeOf (IsTextPiece R) bytes
  pub no_close_mark : ContainsBytes bytes (codes "]]>") → ⊥
