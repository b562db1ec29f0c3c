-- Texts as lists of units (XML 1.0, sections 2.2, 2.4 and 4.1).
use Rattle.std.specs.Prelude.{◌≡◌, ◌≢◌, ◌⊎◌, ℕ, Bool, false, true, not, ◌&&◌, ◌==◌, nat_lt}
use Rattle.std.specs.Prelude.{if◌then◌else◌, List, [], ◌∷◌, ◌++◌, length, codes, IsTrue}
use Rattle.std.specs.Prelude.{encode_utf8, Result, Ok, Err}
use Rattle.pv_chars.specs.Characters.{is_char, BeginsNo}
use Rattle.pv_chars.specs.Fronts.{Begins, BeginsNone}
use Rattle.pv_chars.specs.References.{IsCharRef, IsEntityRef, IsPredefined, IsReference}
use Rattle.pv_chars.specs.Utf8.{continues}
use Rattle.pv_chars.specs.Texts.{joined}
use Rattle.pv_chars.specs.declared.errors.TextError.{TextError}
use Rattle.pv_chars.specs.declared.errors.TextError.TheVariants.{Empty, BadChar, BadReference}
use Rattle.pv_chars.specs.declared.errors.TextError.TheVariants.{Entity, CloseMark, NoMemory}

-- a character that stands for itself in a text: a Char other than `<` and `&`
abbrev pub is_literal : ℕ → Bool
is_literal c = is_char c && not (c == 60) && not (c == 38)

-- One such character.
pub record IsLiteral (bytes : List ℕ) : Type 0 where
  pub code : ℕ
  pub is_literal : IsTrue (is_literal code)
  pub whole : bytes ≡ encode_utf8 code

-- One reference to a predefined name.
pub record IsPredefinedRef (bytes : List ℕ) : Type 0 where
  pub name : List ℕ
  pub is_predefined : IsPredefined name
  pub is_reference : IsEntityRef name bytes

-- a unit: one literal character, or one whole reference (XML 1.0, 2.4, 4.1)
abbrev pub IsUnit : List ℕ → Type 0
IsUnit bytes = IsLiteral bytes ⊎ (IsCharRef bytes ⊎ IsPredefinedRef bytes)

-- `]]>` stands at the front
abbrev pub BeginsCloseMark : List ℕ → Type 0
BeginsCloseMark bytes = (more : List ℕ) × (bytes ≡ codes "]]>" ++ more)

-- A reference to a name that isn't predefined stands at the front.
pub record BeginsOtherEntity (bytes : List ℕ) : Type 0 where
  pub name : List ℕ
  pub rest : List ℕ
  pub begins : Begins (IsEntityRef name) bytes rest
  pub other : IsPredefined name → ⊥

-- `&` stands at the front, and no reference.
pub record BeginsBadReference (bytes : List ℕ) : Type 0 where
  pub more : List ℕ
  pub whole : bytes ≡ codes "&" ++ more
  pub none : BeginsNone IsReference bytes

-- `<` stands at the front, or something, but no Char
abbrev pub BeginsBadChar : List ℕ → Type 0
BeginsBadChar bytes =
    ((more : List ℕ) × (bytes ≡ codes "<" ++ more)) ⊎ ((bytes ≢ []) × BeginsNo is_char bytes)

-- what keeps a unit from standing at a place, so many bytes from the start
abbrev pub HasTextFault : TextError → ℕ → List ℕ → Type 0
HasTextFault Empty at rest = ⊥
HasTextFault (BadChar k) at rest = (k ≡ at) × BeginsBadChar rest
HasTextFault (BadReference k) at rest = (k ≡ at) × BeginsBadReference rest
HasTextFault (Entity k) at rest = (k ≡ at) × BeginsOtherEntity rest
HasTextFault (CloseMark k) at rest = (k ≡ at) × BeginsCloseMark rest
HasTextFault NoMemory at rest = ⊥

-- what keeps a unit from standing at a place, so many bytes from the start, where it may begin
-- `]]>`
abbrev pub HasUnitFault : TextError → ℕ → List ℕ → Type 0
HasUnitFault Empty at rest = ⊥
HasUnitFault (BadChar k) at rest = (k ≡ at) × BeginsBadChar rest
HasUnitFault (BadReference k) at rest = (k ≡ at) × BeginsBadReference rest
HasUnitFault (Entity k) at rest = (k ≡ at) × BeginsOtherEntity rest
HasUnitFault (CloseMark k) at rest = ⊥
HasUnitFault NoMemory at rest = ⊥

-- a unit stands at the front, and this after it
abbrev pub BeginsAnyUnit : List ℕ → List ℕ → Type 0
BeginsAnyUnit bytes rest = Begins IsUnit bytes rest

-- A unit stands at the front, and this after it.
pub record BeginsUnit (bytes unit rest : List ℕ) : Type 0 where
  pub is_unit : IsUnit unit
  pub whole : bytes ≡ unit ++ rest
  pub no_close_mark : BeginsCloseMark bytes → ⊥

abbrev pub BeginsSomeUnit : List ℕ → List ℕ → Type 0
BeginsSomeUnit bytes rest = (u : List ℕ) × BeginsUnit bytes u rest

abbrev pub BeginsAmpersand : List ℕ → Type 0
BeginsAmpersand bytes = (more : List ℕ) × (bytes ≡ codes "&" ++ more)

-- Behind these units, the rest means this: it ends with them, goes on with a unit, or has a fault.
pub data TextRestMeans : List (List ℕ) → List ℕ → Result (List (List ℕ)) TextError → Type 0 where
  ends : {before : List (List ℕ)} {rest : List ℕ} → rest ≡ [] →
      TextRestMeans before rest (Ok before)
  unit : {before : List (List ℕ)} {rest : List ℕ} {o : Result (List (List ℕ)) TextError}
      (u more : List ℕ) → BeginsUnit rest u more → TextRestMeans (before ++ u ∷ []) more o →
      TextRestMeans before rest o
  fault : {before : List (List ℕ)} {rest : List ℕ} (e : TextError) →
      HasTextFault e (length (joined before)) rest → TextRestMeans before rest (Err e)

-- what a text means: its units, or the first fault from the left
abbrev pub TextMeans : List ℕ → Result (List (List ℕ)) TextError → Type 0
TextMeans bytes o = ((bytes ≡ []) × (o ≡ Err Empty)) ⊎ ((bytes ≢ []) × TextRestMeans [] bytes o)

-- each of these is a unit
abbrev pub AllUnits : List (List ℕ) → Type 0
AllUnits [] = Unit {0}
AllUnits (u ∷ us) = IsUnit u × AllUnits us

-- the byte, in front of what is open: it belongs to it, or it begins a unit
abbrev pub goes_on : ℕ → List ℕ × List (List ℕ) → List ℕ × List (List ℕ)
goes_on b r = (b ∷ r.0, r.1)

abbrev pub unit_opens : ℕ → List ℕ × List (List ℕ) → List ℕ × List (List ℕ)
unit_opens b r = ([], (b ∷ r.0) ∷ r.1)

-- What the bytes of a text add to the unit before them, which may be an open reference, and the
-- units after it: a reference goes on to its `;`, and a character as long as bytes continue it.
abbrev pub cut_units : Bool → List ℕ → List ℕ × List (List ℕ)
cut_units in_reference [] = ([], [])
cut_units true (b ∷ bs) = goes_on b (cut_units (not (b == 59)) bs)
cut_units false (b ∷ bs) =
    if continues b then goes_on b (cut_units false bs) else unit_opens b (cut_units (b == 38) bs)

-- the units of a text
unfoldable pub units_in : List ℕ → List (List ℕ)
units_in bytes = (cut_units false bytes).1

-- These bytes are so many units, and at least one.
pub record IsCut (bytes : List ℕ) (count : ℕ) : Type 0 where
  pub units : List (List ℕ)
  pub are_units : AllUnits units
  pub some : units ≢ []
  pub whole : bytes ≡ joined units
  pub count_is : count ≡ length units

-- So many units are what a text means.
pub record MeansUnits (bytes : List ℕ) (count : ℕ) : Type 0 where
  pub units : List (List ℕ)
  pub are_units : AllUnits units
  pub whole : bytes ≡ joined units
  pub count_is : count ≡ length units
  pub means : TextRestMeans [] bytes (Ok units)

-- a character of ASCII that stands for itself and isn't `>`: a run of them is a text of as many
-- units
abbrev pub is_simple : ℕ → Bool
is_simple b = is_literal b && nat_lt b 128 && not (b == 62)

-- a character of ASCII that stands for itself and is neither `>` nor `]`: it is a unit whatever
-- stands after it
abbrev pub is_lone : ℕ → Bool
is_lone b = is_simple b && not (b == 93)
