-- The kinds of faults, in the order in which they are tested.
use Rattle.std.specs.Prelude.{◌≡◌, ◌<◌, ◌+◌, ℕ, ◌⊎◌, ◌||◌, not, nat_le, Bool, List, [], ◌∷◌, ◌++◌}
use Rattle.std.specs.Prelude.{length, codes, suc, ◌==◌, if◌then◌else◌, IsTrue}
use Rattle.std.specs.List.{list_any}
use Rattle.std.specs.Str.{bytes_eq}
use Rattle.pv_dtd.specs.Facts.{are_distinct, MAX_TYPES, MAX_PARTS, MAX_NESTING, is_short_name}
use Rattle.pv_dtd.specs.Items.{DtdItem, declared_by, declared_in, models_in, listed_by}
use Rattle.pv_dtd.specs.Items.{mentioned_by}
use Rattle.pv_dtd.specs.Items.{parts_by, parts_of_models}
use Rattle.pv_dtd.specs.Spelling.{StandsAt, IsQuotedText, IsSkippedWord, ends_or_refers}
use Rattle.pv_chars.specs.Declarations.{is_one_of}

pub data Kind : Type 0 where
  parameter : Kind
  nesting : Kind
  syntax : Kind
  twice : Kind
  mixed_twice : Kind
  limit : Kind

-- A reference of a parameter entity, a conditional section, or a declaration's word and a '%'
-- outside quotes before its first '>' outside quotes.
pub data HasParameter : List ℕ → Type 0 where
  reference : {place : List ℕ} (rest : List ℕ) → place ≡ codes "%" ++ rest → HasParameter place
  section : {place : List ℕ} (rest : List ℕ) → place ≡ codes "<![" ++ rest → HasParameter place
  inside : {place : List ℕ} (word before rest : List ℕ) →
      (word ≡ codes "<!ELEMENT") ⊎ IsSkippedWord word → IsQuotedText ends_or_refers before →
      place ≡ word ++ before ++ codes "%" ++ rest → HasParameter place

-- how often a byte stands in a text
abbrev pub how_many : ℕ → List ℕ → ℕ
how_many byte [] = 0
how_many byte (b ∷ bs) = if b == byte then suc (how_many byte bs) else how_many byte bs

-- '<!ELEMENT', and more than 64 parentheses open somewhere before its first '>'
pub record IsTooDeep (place : List ℕ) : Type 0 where
  pub before : List ℕ
  pub rest : List ℕ
  pub whole : place ≡ codes "<!ELEMENT" ++ before ++ rest
  pub unclosed : IsTrue (not (is_one_of before 62))
  pub deep : MAX_NESTING + how_many 41 before < how_many 40 before

-- the item that stands at the place breaks this rule
abbrev pub Breaks : Bool → List ℕ → (DtdItem → Bool) → Type 0
Breaks front place rule =
    (i : DtdItem) × (rest : List ℕ) × StandsAt front place i rest × IsTrue (rule i)

-- the item declares one of the names that were declared (XML 1.0, 3.2, Unique Element Type
-- Declaration)
abbrev pub declares_again : List (List ℕ) → DtdItem → Bool
declares_again declared i = list_any (λ n. list_any (bytes_eq n) declared) (declared_by i)

-- the item lists a name twice in a mixed model (XML 1.0, 3.2.2, No Duplicate Types)
abbrev pub lists_twice : DtdItem → Bool
lists_twice i = not (are_distinct (listed_by i))

abbrev pub is_too_long : List ℕ → Bool
is_too_long name = not (is_short_name name)

-- One of the item's names is too long, or with it there are too many declared names or too many
-- parts; so many were there before.
abbrev pub passes_limit : List (List ℕ) → ℕ → DtdItem → Bool
passes_limit declared parts i =
    list_any is_too_long (declared_by i ++ mentioned_by i) ||
    not (nat_le (length (declared ++ declared_by i)) MAX_TYPES)
    || not (nat_le (parts + parts_by i) MAX_PARTS)

-- a fault of this kind stands at the place, after these items
abbrev pub HasFault : List DtdItem → Bool → List ℕ → Kind → Type 0
HasFault before front place parameter = HasParameter place
HasFault before front place nesting = IsTooDeep place
HasFault before front place syntax = (i : DtdItem) (rest : List ℕ) → StandsAt front place i rest → ⊥
HasFault before front place twice = Breaks front place (declares_again (declared_in before))
HasFault before front place mixed_twice = Breaks front place lists_twice
HasFault before front place limit =
    Breaks front place (passes_limit (declared_in before) (parts_of_models (models_in before)))

-- the order of the kinds
abbrev pub rank : Kind → ℕ
rank parameter = 0
rank nesting = 1
rank syntax = 2
rank twice = 3
rank mixed_twice = 4
rank limit = 5

-- the first kind of fault that stands at the place
pub record IsFirstFault (before : List DtdItem) (front : Bool) (place : List ℕ)
    (kind : Kind) : Type 0 where
  pub holds : HasFault before front place kind
  pub first : (earlier : Kind) → rank earlier < rank kind → HasFault before front place earlier → ⊥
