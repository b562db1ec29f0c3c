-- What bytes mean as a pack, and where they are at fault.
use Rattle.std.specs.Prelude.{◌≡◌, ◌≤◌, ◌<◌, ◌⊎◌, ℕ, suc, List, [], ◌∷◌, ◌++◌, length, Option}
use Rattle.std.specs.Prelude.{Some, None, Result, Ok, Err}
use Rattle.pv_tables.specs.Tables.{entries_in, most_entries}
use Rattle.pv_tables.specs.declared.tables.Entry.{Entry}
use Rattle.pv_cert.specs.Fronts.{Begins}
use Rattle.pv_cert.specs.Lines.{PackLine, end_line, entry_line}
use Rattle.pv_cert.specs.Packs.{AreLines, IsPackText, MayFollow, last_line, lines_text}
use Rattle.pv_cert.specs.declared.packs.Pack.{Pack}
use Rattle.pv_cert.specs.declared.errors.PackError.{PackError}
use Rattle.pv_cert.specs.declared.errors.PackError.TheVariants.{Limit, NoMemory, Syntax}

-- the most bytes of a pack
abbrev pub MAX_PACK_BYTES : ℕ
MAX_PACK_BYTES = 1073741824

-- how many of some lines are entries
abbrev pub entries_among : List PackLine → ℕ
entries_among [] = 0
entries_among (entry_line e ∷ lines) = suc (entries_among lines)
entries_among (line ∷ lines) = entries_among lines

-- These lines, which may stand after this one, stand at the front, and this after them.
pub record Stand (before : Option PackLine) (bytes : List ℕ) (lines : List PackLine)
    (rest : List ℕ) : Type 0 where
  pub are_lines : AreLines before lines
  pub whole : bytes ≡ lines_text lines ++ rest

-- The line stands at the front, with this after it, and may stand after this one.
pub record Stands (before : Option PackLine) (bytes : List ℕ) (line : PackLine) (rest : List ℕ)
    : Type 0 where
  pub may_follow : MayFollow before line
  pub begins : Begins bytes line rest

-- no line stands at the front that may stand after this one
abbrev pub StandsNone : Option PackLine → List ℕ → Type 0
StandsNone before bytes = (line : PackLine) (rest : List ℕ) → Stands before bytes line rest → ⊥

-- nothing is left behind the end of the pack
abbrev pub IsWhole : Option PackLine → List ℕ → Type 0
IsWhole last rest = (last ≡ Some end_line) × (rest ≡ [])

-- Behind so many lines, with no more entries among them than there may be, no line stands that may
-- stand there, and the pack isn't whole. A line that is cut off is none.
pub record IsFaulty (bytes : List ℕ) (k : ℕ) : Type 0 where
  pub lines : List PackLine
  pub rest : List ℕ
  pub stand : Stand None bytes lines rest
  pub number : k ≡ length lines
  pub within : entries_among lines ≤ most_entries
  pub none : StandsNone (last_line None lines) rest
  pub cut : IsWhole (last_line None lines) rest → ⊥

-- Behind lines with as many entries as there may be one more stands that may stand there.
pub record HasTooMany (bytes : List ℕ) : Type 0 where
  pub lines : List PackLine
  pub e : Entry
  pub rest : List ℕ
  pub stand : Stand None bytes (lines ++ entry_line e ∷ []) rest
  pub full : entries_among lines ≡ most_entries

-- a pack; a fault after so many whole lines; or past a limit
pub data Outcome : Type 0 where
  is_pack : (pack : Pack) → Outcome
  is_fault : (k : ℕ) → Outcome
  is_past_limit : Outcome

-- what bytes mean within the limits
abbrev pub PackMeans : List ℕ → Outcome → Type 0
PackMeans bytes (is_pack pack) = (length bytes ≤ MAX_PACK_BYTES) × IsPackText bytes pack ×
    (entries_in pack.tables ≤ most_entries)
PackMeans bytes (is_fault k) = (length bytes ≤ MAX_PACK_BYTES) × IsFaulty bytes k
PackMeans bytes is_past_limit =
    (MAX_PACK_BYTES < length bytes) ⊎ ((length bytes ≤ MAX_PACK_BYTES) × HasTooMany bytes)

-- the bytes mean what the error tells; nothing is known where memory was wanting
abbrev pub Refuses : List ℕ → PackError → Type 0
Refuses bytes (Syntax k) = PackMeans bytes (is_fault k)
Refuses bytes Limit = PackMeans bytes is_past_limit
Refuses bytes NoMemory = Unit {0}

-- the result is this outcome, or want of memory
abbrev pub Answers : Outcome → Result Pack PackError → Type 0
Answers (is_pack pack) (Ok p) = p ≡ pack
Answers (is_pack pack) (Err (Syntax k)) = ⊥
Answers (is_pack pack) (Err Limit) = ⊥
Answers (is_pack pack) (Err NoMemory) = Unit {0}
Answers (is_fault j) (Ok p) = ⊥
Answers (is_fault j) (Err (Syntax k)) = k ≡ j
Answers (is_fault j) (Err Limit) = ⊥
Answers (is_fault j) (Err NoMemory) = Unit {0}
Answers is_past_limit (Ok p) = ⊥
Answers is_past_limit (Err (Syntax k)) = ⊥
Answers is_past_limit (Err Limit) = Unit {0}
Answers is_past_limit (Err NoMemory) = Unit {0}
