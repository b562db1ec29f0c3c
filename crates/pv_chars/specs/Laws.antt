-- Statements of laws.
use Rattle.std.specs.Prelude.{◌≡◌, ◌≢◌, ◌↔◌, ℕ, false, List, [], Result, IsTrue}
use Rattle.pv_chars.specs.Spaces.{is_space, begins}
use Rattle.pv_chars.specs.Characters.{BeginsWith}
use Rattle.pv_chars.specs.Names.{IsName, TakesName, is_name}
use Rattle.pv_chars.specs.Fronts.{Begins, EndsAt}
use Rattle.pv_chars.specs.Declarations.{IsQuoted, IsPart}
use Rattle.pv_chars.specs.References.{IsEntityRef}
use Rattle.pv_chars.specs.Texts.{joined}
use Rattle.pv_chars.specs.Units.{AllUnits, units_in, TextMeans}
use Rattle.pv_chars.specs.declared.errors.TextError.{TextError}

-- at most one such item stands at the front of any bytes
abbrev pub IsDetermined : (List ℕ → Type 0) → Type 0
IsDetermined IsItem = (bytes rest more : List ℕ) → Begins IsItem bytes rest →
    Begins IsItem bytes more → rest ≡ more

abbrev pub CodesAreDetermined : Type 0
CodesAreDetermined = (bytes : List ℕ) (c d : ℕ) (rest more : List ℕ) → BeginsWith bytes c rest →
    BeginsWith bytes d more → (c ≡ d) × (rest ≡ more)

abbrev pub NamesAreDetermined : Type 0
NamesAreDetermined = (bytes name rest other more : List ℕ) → TakesName bytes name rest →
    TakesName bytes other more → (name ≡ other) × (rest ≡ more)

-- the test holds exactly of a Name
abbrev pub NamesAreTested : Type 0
NamesAreTested = (bytes : List ℕ) → IsTrue (is_name bytes) ↔ IsName bytes

abbrev pub EndsAreDetermined : Type 0
EndsAreDetermined = (delimiter bytes before after other more : List ℕ) →
    EndsAt delimiter bytes before after → EndsAt delimiter bytes other more →
    (before ≡ other) × (after ≡ more)

abbrev pub QuotedAreDetermined : Type 0
QuotedAreDetermined = (bytes value rest other more : List ℕ) → Begins (IsQuoted value) bytes rest →
    Begins (IsQuoted other) bytes more → (value ≡ other) × (rest ≡ more)

-- where the word is some bytes that don't begin with white space
abbrev pub PartsAreDetermined : Type 0
PartsAreDetermined = (word bytes : List ℕ) → word ≢ [] → begins is_space word ≡ false →
    (value rest other more : List ℕ) → Begins (IsPart word value) bytes rest →
    Begins (IsPart word other) bytes more → (value ≡ other) × (rest ≡ more)

abbrev pub EntityRefsAreDetermined : Type 0
EntityRefsAreDetermined = (bytes name rest other more : List ℕ) →
    Begins (IsEntityRef name) bytes rest → Begins (IsEntityRef other) bytes more →
    (name ≡ other) × (rest ≡ more)

abbrev pub TextsMeanOne : Type 0
TextsMeanOne = (bytes : List ℕ) (o p : Result (List (List ℕ)) TextError) → TextMeans bytes o →
    TextMeans bytes p → o ≡ p

abbrev pub UnitsAreDetermined : Type 0
UnitsAreDetermined = (units : List (List ℕ)) → AllUnits units → units_in (joined units) ≡ units
