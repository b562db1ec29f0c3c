-- What a DTD text is, limits aside (XML 1.0, section 2.8, productions extSubset and extSubsetDecl;
-- 3.2 and 3.2.2), and the limits.
use Rattle.std.specs.Prelude.{◌≡◌, ◌≤◌, ℕ, List, [], ◌∷◌, ◌++◌, IsTrue, false, length}
use Rattle.std.specs.List.{AllByRecursion, list_all}
use Rattle.pv_chars.specs.Spaces.{IsOptionalSpace}
use Rattle.pv_chars.specs.Declarations.{IsTextDecl}
use Rattle.pv_chars.specs.ByteOrderMark.{IsBehindByteOrderMark}
use Rattle.pv_model.specs.Plain.{PlainModel, children}
use Rattle.pv_dtd.specs.Plain.{PlainDtd, declared, parts_in_models}
use Rattle.pv_dtd.specs.Facts.{are_distinct, is_short_name, nesting, MAX_DTD_BYTES, MAX_TYPES}
use Rattle.pv_dtd.specs.Facts.{MAX_PARTS, MAX_NESTING}
use Rattle.pv_dtd.specs.Items.{DtdItem, text_declaration, declared_in, listed_by}
use Rattle.pv_dtd.specs.Spelling.{Spells, MayStand}
use Rattle.pv_dtd.specs.Numbering.{dtd_of_items}

-- (markupdecl | S)*: items other than a text declaration, with S? before each and after the last;
-- no conditional section and no reference of a parameter entity is part of a DTD here (XML 1.0,
-- 2.8, extSubsetDecl)
abbrev pub SpellsDeclarations : List DtdItem → List ℕ → Type 0
SpellsDeclarations [] text = IsOptionalSpace text
SpellsDeclarations (i ∷ items) text =
    (space : List ℕ) × (first : List ℕ) × (others : List ℕ) ×
    IsOptionalSpace space × MayStand false i × Spells i first × SpellsDeclarations items others ×
    (text ≡ space ++ first ++ others)

-- extSubset: TextDecl? (markupdecl | S)* (XML 1.0, 2.8, extSubset)
pub data SpellsSubset (items : List DtdItem) (text : List ℕ) : Type 0 where
  plain : SpellsDeclarations items text → SpellsSubset items text
  behind_declaration : (first others : List ℕ) (more : List DtdItem) →
      items ≡ text_declaration ∷ more → IsTextDecl first → SpellsDeclarations more others →
      text ≡ first ++ others → SpellsSubset items text

-- no mixed model lists a name twice (XML 1.0, 3.2.2, No Duplicate Types)
abbrev pub ListNoneTwice : List DtdItem → Type 0
ListNoneTwice items = AllByRecursion (λ i. IsTrue (are_distinct (listed_by i))) items

-- A text is this DTD: a byte order mark or none, and then items, of which no two declare the same
-- name and none lists a name twice (XML 1.0, 2.8).
pub record IsDtdText (bytes : List ℕ) (g : PlainDtd) : Type 0 where
  pub items : List DtdItem
  pub rest : List ℕ
  pub behind_mark : IsBehindByteOrderMark bytes rest
  pub spelled : SpellsSubset items rest
  pub declared_once : IsTrue (are_distinct (declared_in items))
  pub listed_once : ListNoneTwice items
  pub is_dtd : g ≡ dtd_of_items items

-- how many sequences and choices stand one inside another in a model
abbrev pub nesting_in : PlainModel → ℕ
nesting_in (children p) = nesting p
nesting_in _ = 0

-- the limits on a text and the DTD that it is
pub record KeepsLimits (bytes : List ℕ) (g : PlainDtd) : Type 0 where
  pub few_bytes : length bytes ≤ MAX_DTD_BYTES
  pub few_types : declared g ≤ MAX_TYPES
  pub few_parts : parts_in_models g.models ≤ MAX_PARTS
  pub short_names : IsTrue (list_all is_short_name g.names)
  pub shallow : AllByRecursion (λ m. nesting_in m ≤ MAX_NESTING) g.models
