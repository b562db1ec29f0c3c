-- The parts of a denial's text, one after the other, and what is at fault in them.
use Rattle.std.specs.Prelude.{◌≡◌, ◌≤◌, ◌+◌, ◌<◌, ℕ, List, [], ◌∷◌, ◌++◌, length, map, Option}
use Rattle.std.specs.Prelude.{Some, None}
use Rattle.pv_rules.specs.PlainForms.{plain_site}
use Rattle.pv_rules.specs.declared.sites.Site.{Site}
use Rattle.pv_denial.specs.Rows.{IsSiteBefore, most_values, values_in}
use Rattle.pv_denial.specs.declared.denials.Cause.{Cause}
use Rattle.pv_denial.specs.declared.denials.Row.{Row}
use Rattle.pv_denial_text.specs.Lines.{DenialLine, cause_line, end_line, list_line, row_line}
use Rattle.pv_denial_text.specs.Lines.{version_line}
use Rattle.pv_denial_text.specs.Meaning.{IsFaulty, IsWhole, Stand, Stands, StandsNone}
use Rattle.pv_denial_text.specs.Meaning.{values_among}
use Rattle.pv_denial_text.specs.Texts.{last_line}
use Rattle.pv_denial_text.specs.declared.errors.TableError.{TableError}
use Rattle.pv_denial_text.specs.declared.errors.TableError.TheVariants.{Limit, NoMemory, Syntax}

-- the site of a row may stand after the last one, or at the head of the rows
abbrev pub Follows : Option Site → Site → Type 0
Follows None s = Unit {0}
Follows (Some last) s = IsSiteBefore (plain_site last) (plain_site s)

-- the line is the cause or a row, and the last site after it is this
abbrev pub IsRowPlace : Option DenialLine → Option Site → Type 0
IsRowPlace None last = ⊥
IsRowPlace (Some version_line) last = ⊥
IsRowPlace (Some (list_line path)) last = ⊥
IsRowPlace (Some (cause_line c)) last = last ≡ None
IsRowPlace (Some (row_line r)) last = last ≡ Some r.site
IsRowPlace (Some end_line) last = ⊥

-- no row stands at the front that may stand after this line
abbrev pub StandsNoRow : Option DenialLine → List ℕ → Type 0
StandsNoRow before bytes =
    (r : Row) (rest : List ℕ) → Stands before bytes (row_line r) rest → ⊥

-- a row stands at the front that may stand after a line with this last site
abbrev pub StandsRow : Option Site → List ℕ → Row → List ℕ → Type 0
StandsRow last bytes r rest = (before : Option DenialLine) → IsRowPlace before last →
    Stands before bytes (row_line r) rest

-- none does
abbrev pub StandsNoRowBehind : Option Site → List ℕ → Type 0
StandsNoRowBehind last bytes = (before : Option DenialLine) → IsRowPlace before last →
    StandsNoRow before bytes

-- the lines of a text up to its cause
abbrev pub head_lines : List ℕ → Cause → List DenialLine
head_lines path c = version_line ∷ list_line path ∷ cause_line c ∷ []

-- what the error tells of the lines up to the cause
abbrev pub RefusesHead : List ℕ → TableError → Type 0
RefusesHead bytes (Syntax k) = IsFaulty bytes k
RefusesHead bytes Limit = ⊥
RefusesHead bytes NoMemory = Unit {0}

-- After a cause the fault is after so many lines.
pub record IsFaultyBehind (c : Cause) (bytes : List ℕ) (k : ℕ) : Type 0 where
  pub lines : List DenialLine
  pub rest : List ℕ
  pub stand : Stand (Some (cause_line c)) bytes lines rest
  pub number : k ≡ 3 + length lines
  pub within : values_among lines ≤ most_values
  pub none : StandsNone (last_line (Some (cause_line c)) lines) rest
  pub cut : IsWhole (last_line (Some (cause_line c)) lines) rest → ⊥

-- Behind a cause there are more values than there may be.
pub record HasTooManyBehind (c : Cause) (bytes : List ℕ) : Type 0 where
  pub lines : List DenialLine
  pub row : Row
  pub rest : List ℕ
  pub stand : Stand (Some (cause_line c)) bytes (lines ++ row_line row ∷ []) rest
  pub within : values_among lines ≤ most_values
  pub past : most_values < values_among lines + length row.values

-- These rows and the end stand after a cause, and nothing after them.
pub record EndsWithRows (bytes : List ℕ) (rows : List Row) : Type 0 where
  pub stand : (c : Cause) →
      Stand (Some (cause_line c)) bytes (map row_line rows ++ end_line ∷ []) []
  pub few : values_in rows ≤ most_values

-- what the error tells of what stands after a cause
abbrev pub RefusesRows : List ℕ → TableError → Type 0
RefusesRows bytes (Syntax k) = (c : Cause) → IsFaultyBehind c bytes k
RefusesRows bytes Limit = (c : Cause) → HasTooManyBehind c bytes
RefusesRows bytes NoMemory = Unit {0}
