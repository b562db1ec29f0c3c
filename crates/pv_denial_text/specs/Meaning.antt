-- What bytes mean as a denial, and where they are at fault.
use Rattle.std.specs.Prelude.{◌≡◌, ◌≤◌, ◌<◌, ◌+◌, ◌⊎◌, ℕ, List, [], ◌∷◌, ◌++◌, length, Option}
use Rattle.std.specs.Prelude.{Some, None, Result, Ok, Err}
use Rattle.pv_denial.specs.Rows.{most_values, values_in}
use Rattle.pv_denial.specs.declared.denials.Denial.{Denial}
use Rattle.pv_denial.specs.declared.denials.Row.{Row}
use Rattle.pv_denial_text.specs.Fronts.{Begins}
use Rattle.pv_denial_text.specs.Lines.{DenialLine, end_line, row_line}
use Rattle.pv_denial_text.specs.Texts.{AreLines, IsDenialText, MayFollow, last_line, lines_text}
use Rattle.pv_denial_text.specs.declared.errors.TableError.{TableError}
use Rattle.pv_denial_text.specs.declared.errors.TableError.TheVariants.{Limit, NoMemory, Syntax}

-- the most bytes of a denial's text
abbrev pub MAX_DENIAL_BYTES : ℕ
MAX_DENIAL_BYTES = 134217728

-- how many values the rows among some lines have
abbrev pub values_among : List DenialLine → ℕ
values_among [] = 0
values_among (row_line r ∷ lines) = length r.values + values_among lines
values_among (line ∷ lines) = values_among lines

-- These lines, which may stand after this one, stand at the front, and this after them.
pub record Stand (before : Option DenialLine) (bytes : List ℕ) (lines : List DenialLine)
    (rest : List ℕ) : Type 0 where
  pub are_lines : AreLines before lines
  pub whole : bytes ≡ lines_text lines ++ rest

-- The line stands at the front, with this after it, and may stand after this one.
pub record Stands (before : Option DenialLine) (bytes : List ℕ) (line : DenialLine)
    (rest : List ℕ) : Type 0 where
  pub may_follow : MayFollow before line
  pub begins : Begins bytes line rest

-- no line stands at the front that may stand after this one
abbrev pub StandsNone : Option DenialLine → List ℕ → Type 0
StandsNone before bytes = (line : DenialLine) (rest : List ℕ) → Stands before bytes line rest → ⊥

-- nothing is left behind the end
abbrev pub IsWhole : Option DenialLine → List ℕ → Type 0
IsWhole last rest = (last ≡ Some end_line) × (rest ≡ [])

-- Behind so many lines, with no more values among them than there may be, no line stands that may
-- stand there, and the text isn't whole. A line that is cut off is none.
pub record IsFaulty (bytes : List ℕ) (k : ℕ) : Type 0 where
  pub lines : List DenialLine
  pub rest : List ℕ
  pub stand : Stand None bytes lines rest
  pub number : k ≡ length lines
  pub within : values_among lines ≤ most_values
  pub none : StandsNone (last_line None lines) rest
  pub cut : IsWhole (last_line None lines) rest → ⊥

-- Behind lines with no more values than there may be a row stands that may stand there, with which
-- there are more.
pub record HasTooMany (bytes : List ℕ) : Type 0 where
  pub lines : List DenialLine
  pub row : Row
  pub rest : List ℕ
  pub stand : Stand None bytes (lines ++ row_line row ∷ []) rest
  pub within : values_among lines ≤ most_values
  pub past : most_values < values_among lines + length row.values

-- a denial; a fault after so many whole lines; or past a limit
pub data Outcome : Type 0 where
  is_denial : (d : Denial) → Outcome
  is_fault : (k : ℕ) → Outcome
  is_past_limit : Outcome

-- what bytes mean within the limits
abbrev pub DenialMeans : List ℕ → Outcome → Type 0
DenialMeans bytes (is_denial d) = (length bytes ≤ MAX_DENIAL_BYTES) × IsDenialText bytes d ×
    (values_in d.rows ≤ most_values)
DenialMeans bytes (is_fault k) = (length bytes ≤ MAX_DENIAL_BYTES) × IsFaulty bytes k
DenialMeans bytes is_past_limit =
    (MAX_DENIAL_BYTES < length bytes) ⊎ ((length bytes ≤ MAX_DENIAL_BYTES) × HasTooMany bytes)

-- the bytes mean what the error tells; nothing is known where memory was wanting
abbrev pub Refuses : List ℕ → TableError → Type 0
Refuses bytes (Syntax k) = DenialMeans bytes (is_fault k)
Refuses bytes Limit = DenialMeans bytes is_past_limit
Refuses bytes NoMemory = Unit {0}

-- the result is this outcome, or want of memory
abbrev pub Answers : Outcome → Result Denial TableError → Type 0
Answers (is_denial d) (Ok e) = e ≡ d
Answers (is_denial d) (Err (Syntax k)) = ⊥
Answers (is_denial d) (Err Limit) = ⊥
Answers (is_denial d) (Err NoMemory) = Unit {0}
Answers (is_fault j) (Ok e) = ⊥
Answers (is_fault j) (Err (Syntax k)) = k ≡ j
Answers (is_fault j) (Err Limit) = ⊥
Answers (is_fault j) (Err NoMemory) = Unit {0}
Answers is_past_limit (Ok e) = ⊥
Answers is_past_limit (Err (Syntax k)) = ⊥
Answers is_past_limit (Err Limit) = Unit {0}
Answers is_past_limit (Err NoMemory) = Unit {0}
