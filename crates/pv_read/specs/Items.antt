-- The items of a document text (XML 1.0, sections 2.4 to 2.8 and 3.1), as spans of it.
use Rattle.std.specs.Prelude.{◌≡◌, ◌⊎◌, ℕ, List, [], ◌++◌, codes}
use Rattle.pv_chars.specs.Spaces.{IsOptionalSpace}
use Rattle.pv_chars.specs.Names.{IsName}
use Rattle.pv_chars.specs.Markup.{IsCdata}
use Rattle.pv_chars.specs.Declarations.{IsXmlDecl}
use Rattle.pv_chars.specs.References.{IsReference}
use Rattle.pv_tree.specs.Attributes.{IsAttributes, IsCharacterData, IsKnownReference}
use Rattle.pv_tree.specs.Prolog.{IsCommentOrInstruction, IsDoctype}

-- An item. The bytes of a tag are told by the name and what stands between it and the tag's end.
pub data Item : Type 0 where
  xml_declaration : (bytes : List ℕ) → Item
  doctype : (name bytes : List ℕ) → Item
  comment_or_instruction : (bytes : List ℕ) → Item
  cdata_section : (bytes : List ℕ) → Item
  start_tag : (name attrs : List ℕ) → Item
  empty_tag : (name attrs : List ℕ) → Item
  end_tag : (name gap : List ℕ) → Item
  text_run : (bytes : List ℕ) → Item

-- the bytes of an item
abbrev pub bytes_of : Item → List ℕ
bytes_of (xml_declaration bytes) = bytes
bytes_of (doctype name bytes) = bytes
bytes_of (comment_or_instruction bytes) = bytes
bytes_of (cdata_section bytes) = bytes
bytes_of (start_tag name attrs) = codes "<" ++ (name ++ (attrs ++ codes ">"))
bytes_of (empty_tag name attrs) = codes "<" ++ (name ++ (attrs ++ codes "/>"))
bytes_of (end_tag name gap) = codes "</" ++ (name ++ (gap ++ codes ">"))
bytes_of (text_run bytes) = bytes

-- the item has the form of its production; references may be to any name (XML 1.0, 2.4 to 2.8, 3.1,
-- 4.1)
abbrev pub HasForm : Item → Type 0
HasForm (xml_declaration bytes) = IsXmlDecl bytes
HasForm (doctype name bytes) = IsDoctype name bytes
HasForm (comment_or_instruction bytes) = IsCommentOrInstruction bytes
HasForm (cdata_section bytes) = IsCdata bytes
HasForm (start_tag name attrs) = IsName name × IsAttributes IsReference attrs
HasForm (empty_tag name attrs) = IsName name × IsAttributes IsReference attrs
HasForm (end_tag name gap) = IsName name × IsOptionalSpace gap
HasForm (text_run bytes) = IsCharacterData IsReference bytes

-- each reference of the item is to a character or to a name that needs no declaration (XML 1.0,
-- 4.1, 4.6)
abbrev pub HasKnownReferences : Item → Type 0
HasKnownReferences (start_tag name attrs) = IsAttributes IsKnownReference attrs
HasKnownReferences (empty_tag name attrs) = IsAttributes IsKnownReference attrs
HasKnownReferences (text_run bytes) = IsCharacterData IsKnownReference bytes
HasKnownReferences _ = Unit {0}

-- nothing is left, or `<` stands at the front
abbrev pub IsRunEnd : List ℕ → Type 0
IsRunEnd rest = (rest ≡ []) ⊎ ((more : List ℕ) × (rest ≡ codes "<" ++ more))

-- a text run is as long as possible
abbrev pub EndsWell : Item → List ℕ → Type 0
EndsWell (text_run bytes) rest = IsRunEnd rest
EndsWell _ rest = Unit {0}

-- This item stands at the front, and this stands after it.
pub record BeginsItem (i : Item) (bytes rest : List ℕ) : Type 0 where
  pub has_form : HasForm i
  pub whole : bytes ≡ bytes_of i ++ rest
  pub ends_well : EndsWell i rest
