-- How the items of each mode are spelled (XML 1.0, sections 2.3, 2.5, 2.6, 4.1, 4.2 and 4.3.1).
use Rattle.std.specs.Prelude.{◌≡◌, ◌⊎◌, ℕ, true, false, List, [], ◌∷◌, ◌++◌, codes}
use Rattle.std.specs.Prelude.{encode_utf8}
use Rattle.pv_chars.specs.Spaces.{is_space, begins, IsSpace, IsOptionalSpace}
use Rattle.pv_chars.specs.Characters.{IsChars}
use Rattle.pv_chars.specs.Names.{IsName}
use Rattle.pv_chars.specs.Fronts.{Begins, BeginsNone}
use Rattle.pv_chars.specs.Markup.{IsComment, IsInstruction}
use Rattle.pv_chars.specs.Declarations.{is_one_of, IsQuoted, IsTextDecl}
use Rattle.pv_chars.specs.ByteOrderMark.{IsBehindByteOrderMark}
use Rattle.pv_chars.specs.References.{number, IsCharRefIn, IsEntityRef}
use Rattle.pv_params.specs.Items.{Mode, inside, value, TextItem, puts, reference}
use Rattle.pv_params.specs.Items.{parameter, declaration}

-- PEReference: `%`, this Name, `;` (XML 1.0, 4.1)
pub record IsPEReference (name bytes : List ℕ) : Type 0 where
  pub is_name : IsName name
  pub whole : bytes ≡ codes "%" ++ (name ++ codes ";")

-- one byte, none of these
pub record IsByteBut (others bytes : List ℕ) : Type 0 where
  pub byte : ℕ
  pub is_other : is_one_of others byte ≡ false
  pub whole : bytes ≡ byte ∷ []

-- one byte of S
pub record IsWhite (bytes : List ℕ) : Type 0 where
  pub byte : ℕ
  pub is_white : is_space byte ≡ true
  pub whole : bytes ≡ byte ∷ []

-- a literal, with its quotes
abbrev pub IsQuotedLiteral : List ℕ → Type 0
IsQuotedLiteral bytes = (text : List ℕ) × IsQuoted text bytes

-- ---- mode Inside: bytes other than `<`, `>`, `%` and the quotes, literals, references
abbrev pub SpellsInside : TextItem → List ℕ → Type 0
SpellsInside (puts result) text =
    (result ≡ text) × (IsByteBut (codes "<>%'\"") text ⊎ IsQuotedLiteral text)
SpellsInside (reference name) text = IsPEReference name text
SpellsInside _ text = ⊥

-- ---- mode Value: bytes other than `%` and `&`, EntityRefs, CharRefs, references
-- CharRef in this base, which gives this character
pub record IsCharacterIn (base : ℕ) (front result bytes : List ℕ) : Type 0 where
  pub is_ref : IsCharRefIn base front bytes
  pub gives : result ≡ encode_utf8 (number base is_ref.digits)

abbrev pub IsCharacter : List ℕ → List ℕ → Type 0
IsCharacter result bytes = IsCharacterIn 10 (codes "&#") result bytes ⊎
    IsCharacterIn 16 (codes "&#x") result bytes

-- EntityRef of any name
abbrev pub IsGeneral : List ℕ → Type 0
IsGeneral bytes = (name : List ℕ) × IsEntityRef name bytes

abbrev pub SpellsValue : TextItem → List ℕ → Type 0
SpellsValue (puts result) text = ((result ≡ text) × (IsByteBut (codes "%&") text ⊎
    IsGeneral text)) ⊎ IsCharacter result text
SpellsValue (reference name) text = IsPEReference name text
SpellsValue _ text = ⊥

-- such items, one after the other, and nothing else
pub data AreItems (Spells : TextItem → List ℕ → Type 0) : List ℕ → Type 0 where
  nothing : {text : List ℕ} → text ≡ [] → AreItems Spells text
  item : {text : List ℕ} (i : TextItem) (front rest : List ℕ) → Spells i front →
      AreItems Spells rest →
      text ≡ front ++ rest → AreItems Spells text

-- the whole text is of the form of mode Inside
pub record IsInside (text : List ℕ) : Type 0 where
  pub are_chars : IsChars text
  pub are_items : AreItems SpellsInside text

-- EntityValue, without its quotes: Chars, in which each `%` and each `&` begins a reference (XML
-- 1.0, 2.3)
pub record IsEntityValue (text : List ℕ) : Type 0 where
  pub are_chars : IsChars text
  pub are_items : AreItems SpellsValue text

-- ---- mode Between
-- PEDecl, with a value: '<!ENTITY' S '%' S Name S EntityValue S? '>' (XML 1.0, 4.2)
pub record IsPEDecl (name given bytes : List ℕ) : Type 0 where
  pub before : List ℕ
  pub after : List ℕ
  pub behind : List ℕ
  pub quoted : List ℕ
  pub end : List ℕ
  pub space_before : IsSpace before
  pub space_after : IsSpace after
  pub is_name : IsName name
  pub space_behind : IsSpace behind
  pub is_quoted : IsQuoted given quoted
  pub is_value : IsEntityValue given
  pub space_at_end : IsOptionalSpace end
  pub whole : bytes ≡ codes "<!ENTITY" ++ (before ++ (codes "%" ++ (after ++ (name ++ (behind ++
      (quoted ++ (end ++ codes ">")))))))

-- the words of other declarations
abbrev pub IsWord : List ℕ → Type 0
IsWord word = (word ≡ codes "<!ELEMENT") ⊎ ((word ≡ codes "<!ATTLIST") ⊎
    ((word ≡ codes "<!ENTITY") ⊎ (word ≡ codes "<!NOTATION")))

-- another declaration: one of the words, a text of the form of mode Inside that begins with S, '>'
-- (XML 1.0, 2.8)
pub record IsDeclaration (word held bytes : List ℕ) : Type 0 where
  pub is_word : IsWord word
  pub begins_white : begins is_space held ≡ true
  pub is_inside : IsInside held
  pub whole : bytes ≡ word ++ (held ++ codes ">")

abbrev pub SpellsBetween : TextItem → List ℕ → Type 0
SpellsBetween (puts result) text = (result ≡ text) × (IsWhite text ⊎ (IsComment text ⊎
    IsInstruction text))
SpellsBetween (reference name) text = IsPEReference name text
SpellsBetween (parameter name given) text = IsPEDecl name given text
SpellsBetween (declaration word held) text = IsDeclaration word held text

-- ---- all modes
abbrev pub Spells : Mode → TextItem → List ℕ → Type 0
Spells inside = SpellsInside
Spells value = SpellsValue
Spells _ = SpellsBetween

-- this item stands at the front of the rest of a text that is read in this mode, and this after it
pub record StandsAt (mode : Mode) (rest : List ℕ) (i : TextItem) (more : List ℕ) : Type 0 where
  pub text : List ℕ
  pub spelled : Spells mode i text
  pub whole : rest ≡ text ++ more

-- ---- what is refused by its front, in mode Between
-- a conditional section begins here (XML 1.0, 3.4)
abbrev pub IsConditional : List ℕ → Type 0
IsConditional rest = (more : List ℕ) × (rest ≡ codes "<![" ++ more)

-- PEDecl of an external entity, up to its word: '<!ENTITY' S '%' S Name S ('SYSTEM' | 'PUBLIC')
-- (XML 1.0, 4.2.2)
pub record IsExternal (rest : List ℕ) : Type 0 where
  pub before : List ℕ
  pub after : List ℕ
  pub name : List ℕ
  pub behind : List ℕ
  pub word : List ℕ
  pub more : List ℕ
  pub space_before : IsSpace before
  pub space_after : IsSpace after
  pub is_name : IsName name
  pub space_behind : IsSpace behind
  pub is_word : (word ≡ codes "SYSTEM") ⊎ (word ≡ codes "PUBLIC")
  pub whole : rest ≡ codes "<!ENTITY" ++ (before ++ (codes "%" ++ (after ++ (name ++ (behind ++
      (word ++ more))))))

-- ---- the file's start
-- what stands after the text declaration, where there is one
abbrev pub IsBehindTextDecl : List ℕ → List ℕ → Type 0
IsBehindTextDecl bytes rest = Begins IsTextDecl bytes rest ⊎ (BeginsNone IsTextDecl bytes ×
    (bytes ≡ rest))

-- The file's head is its byte order mark and its text declaration, where they are there, and this
-- is the rest (XML 1.0, 4.3.1, 4.3.3).
pub record HasHead (bytes head rest : List ℕ) : Type 0 where
  pub unmarked : List ℕ
  pub mark : IsBehindByteOrderMark bytes unmarked
  pub text_declaration : IsBehindTextDecl unmarked rest
  pub whole : bytes ≡ head ++ rest
