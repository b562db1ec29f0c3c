-- What stands before and after the root element (XML 1.0, sections 2.8 and 4.2.2).
use Rattle.std.specs.Prelude.{◌≡◌, ◌⊎◌, ◌||◌, ◌==◌, ℕ, Bool, List, ◌++◌, codes, IsTrue}
use Rattle.std.specs.List.{list_all, list_any}
use Rattle.std.specs.Char.{is_ascii_alphanumeric}
use Rattle.pv_chars.specs.Spaces.{IsSpace, IsOptionalSpace}
use Rattle.pv_chars.specs.Characters.{IsChars}
use Rattle.pv_chars.specs.Names.{IsName}
use Rattle.pv_chars.specs.Markup.{IsComment, IsInstruction}
use Rattle.pv_chars.specs.Declarations.{IsQuoted, IsOptional, IsXmlDecl}
use Rattle.pv_chars.specs.ByteOrderMark.{BYTE_ORDER_MARK}
use Rattle.pv_tree.specs.Attributes.{AreMadeOf}

-- PubidChar: space, CR, LF, letters and digits of ASCII, and these marks (XML 1.0, 2.3)
abbrev pub is_pubid_char : ℕ → Bool
is_pubid_char b =
    (b == 32) || (b == 13) || (b == 10) || is_ascii_alphanumeric b ||
    list_any (λ c. b == c) (codes "-'()+,./:=?;!*#@$_%")

-- SystemLiteral: Chars in a pair of quotes, which they don't hold (XML 1.0, 2.3)
abbrev pub IsSystemLiteral : List ℕ → Type 0
IsSystemLiteral bytes = (value : List ℕ) × IsChars value × IsQuoted value bytes

-- PubidLiteral: the same with PubidChars (XML 1.0, 2.3)
abbrev pub IsPubidLiteral : List ℕ → Type 0
IsPubidLiteral bytes =
    (value : List ℕ) × IsTrue (list_all is_pubid_char value) × IsQuoted value bytes

-- S, `SYSTEM`, S, SystemLiteral (XML 1.0, 4.2.2)
pub record IsSystemId (bytes : List ℕ) : Type 0 where
  pub space : List ℕ
  pub gap : List ℕ
  pub literal : List ℕ
  pub is_space : IsSpace space
  pub is_gap : IsSpace gap
  pub is_literal : IsSystemLiteral literal
  pub whole : bytes ≡ space ++ (codes "SYSTEM" ++ (gap ++ literal))

-- S, `PUBLIC`, S, PubidLiteral, S, SystemLiteral (XML 1.0, 4.2.2)
pub record IsPublicId (bytes : List ℕ) : Type 0 where
  pub space : List ℕ
  pub gap : List ℕ
  pub public : List ℕ
  pub between : List ℕ
  pub system : List ℕ
  pub is_space : IsSpace space
  pub is_gap : IsSpace gap
  pub is_public : IsPubidLiteral public
  pub is_between : IsSpace between
  pub is_system : IsSystemLiteral system
  pub whole : bytes ≡ space ++ (codes "PUBLIC" ++ (gap ++ (public ++ (between ++ system))))

-- S and an ExternalID (XML 1.0, 4.2.2)
abbrev pub IsExternalId : List ℕ → Type 0
IsExternalId bytes = IsSystemId bytes ⊎ IsPublicId bytes

-- The front of a document type declaration of this name: `<!DOCTYPE`, S, Name, then S and an
-- ExternalID or nothing, S?.
pub record IsDoctypeFront (name bytes : List ℕ) : Type 0 where
  pub space : List ℕ
  pub external : List ℕ
  pub gap : List ℕ
  pub is_space : IsSpace space
  pub is_name : IsName name
  pub is_external : IsOptional IsExternalId external
  pub is_gap : IsOptionalSpace gap
  pub whole : bytes ≡ codes "<!DOCTYPE" ++ (space ++ (name ++ (external ++ gap)))

-- doctypedecl without an internal subset, of this name (XML 1.0, 2.8)
pub record IsDoctype (name bytes : List ℕ) : Type 0 where
  pub front : List ℕ
  pub is_front : IsDoctypeFront name front
  pub whole : bytes ≡ front ++ codes ">"

-- Comment or PI (XML 1.0, 2.5, 2.6)
abbrev pub IsCommentOrInstruction : List ℕ → Type 0
IsCommentOrInstruction bytes = IsComment bytes ⊎ IsInstruction bytes

-- Misc: Comment, PI or S (XML 1.0, 2.8)
abbrev pub IsMisc : List ℕ → Type 0
IsMisc bytes = IsCommentOrInstruction bytes ⊎ IsSpace bytes

-- prolog: the byte order mark, XMLDecl, Misc*, and a doctypedecl with Misc*, each of which may be
-- left out. A doctypedecl names this root (XML 1.0, 2.8).
pub record IsProlog (root bytes : List ℕ) : Type 0 where
  pub mark : List ℕ
  pub declaration : List ℕ
  pub misc : List ℕ
  pub doctype : List ℕ
  pub more_misc : List ℕ
  pub is_mark : IsOptional (λ b. b ≡ BYTE_ORDER_MARK) mark
  pub is_declaration : IsOptional IsXmlDecl declaration
  pub is_misc : AreMadeOf IsMisc misc
  pub is_doctype : IsOptional (IsDoctype root) doctype
  pub is_more_misc : AreMadeOf IsMisc more_misc
  pub whole : bytes ≡ mark ++ (declaration ++ (misc ++ (doctype ++ more_misc)))

-- Misc*: what stands after the root element (XML 1.0, 2.8)
abbrev pub IsEpilog : List ℕ → Type 0
IsEpilog bytes = AreMadeOf IsMisc bytes
