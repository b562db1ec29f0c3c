-- What the items of a text leave, and what the reader of items answers.
use Rattle.std.specs.Prelude.{◌≡◌, ◌⊎◌, ◌≤◌, ℕ, true, false, List, [], ◌∷◌, length, Result, Ok}
use Rattle.std.specs.Prelude.{Err}
use Rattle.std.specs.List.{list_any}
use Rattle.pv_dtd.specs.Plain.{PlainDtd}
use Rattle.pv_dtd.specs.Facts.{are_distinct, MAX_TYPES, MAX_PARTS, MAX_NESTING}
use Rattle.pv_dtd.specs.Items.{NamedModel, empty, any, mixed, children, DtdItem, text_declaration}
use Rattle.pv_dtd.specs.Items.{element, skipped, comment, instruction, declared_by, declared_in}
use Rattle.pv_dtd.specs.Items.{models_in, mentioned_by, listed_by, parts_of_models}
use Rattle.pv_dtd.specs.Spelling.{Spells, nesting_of}
use Rattle.pv_dtd.specs.Numbering.{dtd_of_items}
use Rattle.pv_dtd.specs.Kinds.{parameter, nesting, syntax, twice, mixed_twice, limit, is_too_long}
use Rattle.pv_dtd.specs.Meaning.{is_dtd, faulty, DtdRestMeans}
use Rattle.pv_dtd.specs.declared.errors.DtdError.{DtdError}
use Rattle.pv_dtd.specs.declared.errors.DtdError.TheVariants.{Syntax, Twice, MixedTwice, Parameter}
use Rattle.pv_dtd.specs.declared.errors.DtdError.TheVariants.{Limit, NoMemory}

-- no group in the model stands too deep
abbrev pub IsShallow : NamedModel → Type 0
IsShallow empty = Unit {0}
IsShallow any = Unit {0}
IsShallow (mixed names) = Unit {0}
IsShallow (children p) = nesting_of p ≤ MAX_NESTING

abbrev pub IsShallowItem : DtdItem → Type 0
IsShallowItem text_declaration = Unit {0}
IsShallowItem (element n model) = IsShallow model
IsShallowItem skipped = Unit {0}
IsShallowItem comment = Unit {0}
IsShallowItem instruction = Unit {0}

-- an item that is spelled somewhere, and keeps its own rules
pub record IsSoundItem (i : DtdItem) : Type 0 where
  pub text : List ℕ
  pub spelled : Spells i text
  pub shallow : IsShallowItem i
  pub differ : are_distinct (listed_by i) ≡ true
  pub short : list_any is_too_long (declared_by i) ≡ false
  pub mentions_short : list_any is_too_long (mentioned_by i) ≡ false

abbrev pub AreSoundItems : List DtdItem → Type 0
AreSoundItems [] = Unit {0}
AreSoundItems (i ∷ items) = IsSoundItem i × AreSoundItems items

-- items that keep the rules and limits together
pub record AreRuled (items : List DtdItem) : Type 0 where
  pub sound : AreSoundItems items
  pub once : are_distinct (declared_in items) ≡ true
  pub few_types : length (declared_in items) ≤ MAX_TYPES
  pub few_parts : parts_of_models (models_in items) ≤ MAX_PARTS

-- These are the names, the models and the number of parts that items declare.
pub record Declares (names : List (List ℕ)) (models : List NamedModel) (parts : ℕ)
    (items : List DtdItem) : Type 0 where
  pub ruled : AreRuled items
  pub names_are : names ≡ declared_in items
  pub models_are : models ≡ models_in items
  pub parts_are : parts ≡ parts_of_models (models_in items)

-- a DTD of ruled items
abbrev pub IsOfItems : PlainDtd → Type 0
IsOfItems g = (items : List DtdItem) × AreRuled items × (g ≡ dtd_of_items items)

-- what a refusal other than want of memory says of the rest
abbrev pub TellsFault : List ℕ → DtdError → Type 0
TellsFault rest (Syntax k) = DtdRestMeans [] rest (faulty syntax k)
TellsFault rest (Twice k) = DtdRestMeans [] rest (faulty twice k)
TellsFault rest (MixedTwice k) = DtdRestMeans [] rest (faulty mixed_twice k)
TellsFault rest (Parameter k) = DtdRestMeans [] rest (faulty parameter k)
TellsFault rest (Limit k) =
    DtdRestMeans [] rest (faulty nesting k) ⊎ DtdRestMeans [] rest (faulty limit k)
TellsFault rest NoMemory = Unit {0}

-- What a reader answers is what the rest means, unless memory ran out: where it is a DTD, what was
-- read holds its items.
abbrev pub Tells : {X : Type 0} → (X → List DtdItem → Type 0) → List ℕ → Result X DtdError → Type 0
Tells Holds rest (Ok x) =
    (items : List DtdItem) × DtdRestMeans [] rest (is_dtd (dtd_of_items items)) × Holds x items
Tells Holds rest (Err e) = TellsFault rest e
