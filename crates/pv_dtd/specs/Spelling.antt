-- How the items of a DTD text are spelled (XML 1.0, sections 2.5, 2.6, 3.2, 3.3, 4.2, 4.3.1 and
-- 4.7).
use Rattle.std.specs.Prelude.{◌≡◌, ◌≤◌, ℕ, suc, max, ◌⊎◌, ◌==◌, not, Bool, true, false}
use Rattle.std.specs.Prelude.{List, [], ◌∷◌, ◌++◌, codes, IsTrue}
use Rattle.std.specs.List.{list_all}
use Rattle.pv_chars.specs.Spaces.{IsSpace, IsOptionalSpace}
use Rattle.pv_chars.specs.Characters.{IsChars}
use Rattle.pv_chars.specs.Names.{IsName}
use Rattle.pv_chars.specs.Markup.{IsComment, IsInstruction}
use Rattle.pv_chars.specs.Declarations.{is_quote, is_one_of, IsTextDecl}
use Rattle.pv_dtd.specs.Items.{NamedPart, name, seq, choice, opt, star, plus, NamedParts, no_parts}
use Rattle.pv_dtd.specs.Items.{part, NamedModel, empty, any, mixed, children, DtdItem}
use Rattle.pv_dtd.specs.Items.{text_declaration, element, skipped, comment, instruction}

-- a particle that may carry `?`, `*` or `+`: a name, a choice or a sequence
abbrev pub IsUnrepeated : NamedPart → Type 0
IsUnrepeated (name n) = Unit {0}
IsUnrepeated (seq ps) = Unit {0}
IsUnrepeated (choice ps) = Unit {0}
IsUnrepeated _ = ⊥

abbrev pub member_count : NamedParts → ℕ
member_count no_parts = 0
member_count (part p ps) = suc (member_count ps)

-- how many choices and sequences stand one inside another
abbrev mutual
  pub nesting_of : NamedPart → ℕ
  nesting_of (name n) = 0
  nesting_of (seq ps) = suc (nesting_of_all ps)
  nesting_of (choice ps) = suc (nesting_of_all ps)
  nesting_of (opt p) = nesting_of p
  nesting_of (star p) = nesting_of p
  nesting_of (plus p) = nesting_of p

  pub nesting_of_all : NamedParts → ℕ
  nesting_of_all no_parts = 0
  nesting_of_all (part p ps) = max (nesting_of p) (nesting_of_all ps)

abbrev mutual
  -- cp, choice and seq, with their operators (XML 1.0, 3.2.1)
  pub SpellsPart : NamedPart → List ℕ → Type 0
  SpellsPart (name n) text = IsName n × (text ≡ n)
  SpellsPart (seq ps) text = SpellsGroup (codes ",") ps text
  SpellsPart (choice ps) text = (2 ≤ member_count ps) × SpellsGroup (codes "|") ps text
  SpellsPart (opt p) text =
      (inner : List ℕ) × IsUnrepeated p × SpellsPart p inner × (text ≡ inner ++ codes "?")
  SpellsPart (star p) text =
      (inner : List ℕ) × IsUnrepeated p × SpellsPart p inner × (text ≡ inner ++ codes "*")
  SpellsPart (plus p) text =
      (inner : List ℕ) × IsUnrepeated p × SpellsPart p inner × (text ≡ inner ++ codes "+")

  -- '(' S? cp (S? separator S? cp)* S? ')' (XML 1.0, 3.2.1)
  pub SpellsGroup : List ℕ → NamedParts → List ℕ → Type 0
  SpellsGroup separator no_parts text = ⊥
  SpellsGroup separator (part p ps) text =
      (before : List ℕ) × (first : List ℕ) × (others : List ℕ) × (after : List ℕ) ×
      IsOptionalSpace before × SpellsPart p first × SpellsOthers separator ps others ×
      IsOptionalSpace after ×
      (text ≡ codes "(" ++ before ++ first ++ others ++ after ++ codes ")")

  -- (S? separator S? cp)* (XML 1.0, 3.2.1)
  pub SpellsOthers : List ℕ → NamedParts → List ℕ → Type 0
  SpellsOthers separator no_parts text = text ≡ []
  SpellsOthers separator (part p ps) text =
      (before : List ℕ) × (after : List ℕ) × (next : List ℕ) × (others : List ℕ) ×
      IsOptionalSpace before × IsOptionalSpace after × SpellsPart p next ×
      SpellsOthers separator ps others ×
      (text ≡ before ++ separator ++ after ++ next ++ others)

-- a choice or a sequence, with or without an operator
abbrev pub IsGroup : NamedPart → Type 0
IsGroup (name n) = ⊥
IsGroup (opt p) = IsGroup p
IsGroup (star p) = IsGroup p
IsGroup (plus p) = IsGroup p
IsGroup _ = Unit {0}

-- (S? '|' S? Name)* (XML 1.0, 3.2.2)
abbrev pub SpellsListed : List (List ℕ) → List ℕ → Type 0
SpellsListed [] text = text ≡ []
SpellsListed (n ∷ ns) text =
    (before : List ℕ) × (after : List ℕ) × (others : List ℕ) ×
    IsOptionalSpace before × IsOptionalSpace after × IsName n × SpellsListed ns others ×
    (text ≡ before ++ codes "|" ++ after ++ n ++ others)

-- '(' S? '#PCDATA' (S? '|' S? Name)* S? end (XML 1.0, 3.2.2)
pub record SpellsMixed (names : List (List ℕ)) (end text : List ℕ) : Type 0 where
  pub before : List ℕ
  pub listed : List ℕ
  pub after : List ℕ
  pub space_before : IsOptionalSpace before
  pub names_listed : SpellsListed names listed
  pub space_after : IsOptionalSpace after
  pub whole : text ≡ codes "(" ++ before ++ codes "#PCDATA" ++ listed ++ after ++ end

-- contentspec; a mixed model that lists no name may stand without its `*` (XML 1.0, 3.2)
abbrev pub SpellsModel : NamedModel → List ℕ → Type 0
SpellsModel empty text = text ≡ codes "EMPTY"
SpellsModel any text = text ≡ codes "ANY"
SpellsModel (mixed names) text =
    SpellsMixed names (codes ")*") text ⊎ ((names ≡ []) × SpellsMixed names (codes ")") text)
SpellsModel (children p) text = IsGroup p × SpellsPart p text

-- elementdecl: '<!ELEMENT' S Name S contentspec S? '>' (XML 1.0, 3.2)
pub record SpellsElement (name : List ℕ) (model : NamedModel) (text : List ℕ) : Type 0 where
  pub before_name : List ℕ
  pub before_spec : List ℕ
  pub spec : List ℕ
  pub after : List ℕ
  pub space_before_name : IsSpace before_name
  pub is_name : IsName name
  pub space_before_spec : IsSpace before_spec
  pub is_spec : SpellsModel model spec
  pub space_after : IsOptionalSpace after
  pub whole : text ≡ codes "<!ELEMENT" ++ before_name ++ name ++ before_spec ++ spec ++ after ++
      codes ">"

-- Bytes other than quotes and the ones that stop, and literals in quotes, which hold any bytes but
-- their quote.
pub data IsQuotedText (stops : ℕ → Bool) : List ℕ → Type 0 where
  nothing : {text : List ℕ} → text ≡ [] → IsQuotedText stops text
  byte : {text : List ℕ} (b : ℕ) (more : List ℕ) → is_quote b ≡ false → stops b ≡ false →
      IsQuotedText stops more → text ≡ b ∷ more → IsQuotedText stops text
  literal : {text : List ℕ} (quote : ℕ) (inner more : List ℕ) → is_quote quote ≡ true →
      IsTrue (list_all (λ b. not (b == quote)) inner) → IsQuotedText stops more →
      text ≡ quote ∷ (inner ++ quote ∷ more) → IsQuotedText stops text

-- what ends a declaration or refers to a parameter entity
abbrev pub ends_or_refers : ℕ → Bool
ends_or_refers = is_one_of (codes ">%")

-- what may not stand outside quotes in a skipped declaration
abbrev pub may_not_be_skipped : ℕ → Bool
may_not_be_skipped = is_one_of (codes ">%<")

-- the words of the declarations that are skipped
abbrev pub IsSkippedWord : List ℕ → Type 0
IsSkippedWord word =
    (word ≡ codes "<!ATTLIST") ⊎ (word ≡ codes "<!ENTITY") ⊎ (word ≡ codes "<!NOTATION")

-- A skipped declaration: one of the words, S, Chars and literals in quotes, '>' (XML 1.0, 3.3, 4.2,
-- 4.7).
pub record SpellsSkipped (text : List ℕ) : Type 0 where
  pub word : List ℕ
  pub before : List ℕ
  pub inside : List ℕ
  pub is_word : IsSkippedWord word
  pub space_before : IsSpace before
  pub are_chars : IsChars inside
  pub is_inside : IsQuotedText may_not_be_skipped inside
  pub whole : text ≡ word ++ before ++ inside ++ codes ">"

-- how an item is written (XML 1.0, 2.5, 2.6, 3.2, 4.3.1)
abbrev pub Spells : DtdItem → List ℕ → Type 0
Spells text_declaration text = IsTextDecl text
Spells (element n model) text = SpellsElement n model text
Spells skipped text = SpellsSkipped text
Spells comment text = IsComment text
Spells instruction text = IsInstruction text

-- a text declaration stands at the front of a text alone
abbrev pub MayStand : Bool → DtdItem → Type 0
MayStand front text_declaration = IsTrue front
MayStand front _ = Unit {0}

-- an item stands at a place, which is the front of the text or not, and this after it
pub record StandsAt (front : Bool) (place : List ℕ) (i : DtdItem) (rest : List ℕ) : Type 0 where
  pub text : List ℕ
  pub spelled : Spells i text
  pub may_stand : MayStand front i
  pub whole : place ≡ text ++ rest
