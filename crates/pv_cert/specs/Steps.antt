-- The parts of a pack, one after the other, and what is at fault in them.
use Rattle.std.specs.Prelude.{◌≡◌, ◌≤◌, ◌+◌, ◌-◌, ℕ, List, [], ◌∷◌, ◌++◌, drop, length, map}
use Rattle.std.specs.Prelude.{None, Option, Some, take}
use Rattle.pv_tables.specs.Tables.{Precedes, entries_in, most_entries}
use Rattle.pv_tables.specs.declared.tables.Entry.{Entry}
use Rattle.pv_tables.specs.declared.tables.Table.{Table}
use Rattle.pv_cert.specs.Fronts.{BeginsNone}
use Rattle.pv_cert.specs.Lines.{PackLine, body_line, end_line, entry_line, list_line, mark_line}
use Rattle.pv_cert.specs.Lines.{total_line, version_line}
use Rattle.pv_cert.specs.Packs.{last_line, table_lines}
use Rattle.pv_cert.specs.Meaning.{IsFaulty, IsWhole, Stand, Stands, StandsNone}
use Rattle.pv_cert.specs.Meaning.{entries_among}
use Rattle.pv_cert.specs.declared.packs.Pack.{Pack}
use Rattle.pv_cert.specs.declared.errors.PackError.{PackError}
use Rattle.pv_cert.specs.declared.errors.PackError.TheVariants.{Limit, NoMemory, Syntax}

-- no entry stands at the front that may stand after this line
abbrev pub StandsNoEntry : Option PackLine → List ℕ → Type 0
StandsNoEntry before bytes =
    (e : Entry) (rest : List ℕ) → Stands before bytes (entry_line e) rest → ⊥

-- the line before the next one of a table: its head, or the last entry
abbrev pub line_before : List ℕ → Option Entry → Option PackLine
line_before path None = Some (list_line path)
line_before path (Some e) = Some (entry_line e)

-- the entry may stand after the last one of its table, or at its head
abbrev pub Follows : Option Entry → Entry → Type 0
Follows None e = Unit {0}
Follows (Some last) e = Precedes last e

-- As many entries as stand at the front after the head of a table are these.
pub record TakesEntries (bytes : List ℕ) (es : List Entry) (rest : List ℕ) : Type 0 where
  pub stand : (path : List ℕ) → Stand (Some (list_line path)) bytes (map entry_line es) rest
  pub none : (path : List ℕ) →
      StandsNoEntry (last_line (Some (list_line path)) (map entry_line es)) rest

-- One entry more than so many stands at the front after the head of a table.
pub record HasEntryBeyond (bytes : List ℕ) (most : ℕ) : Type 0 where
  pub es : List Entry
  pub e : Entry
  pub rest : List ℕ
  pub stand : (path : List ℕ) →
      Stand (Some (list_line path)) bytes (map entry_line es ++ entry_line e ∷ []) rest
  pub full : length es ≡ most

-- what the error tells of the entries after the head of a table, which may be so many
abbrev pub RefusesEntries : List ℕ → ℕ → PackError → Type 0
RefusesEntries bytes most (Syntax k) = ⊥
RefusesEntries bytes most Limit = HasEntryBeyond bytes most
RefusesEntries bytes most NoMemory = Unit {0}

-- After this line, where so many stand before it, the fault is after so many.
pub record IsFaultyBehind (before : Option PackLine) (first : ℕ) (bytes : List ℕ) (k : ℕ)
    : Type 0 where
  pub lines : List PackLine
  pub rest : List ℕ
  pub stand : Stand before bytes lines rest
  pub number : k ≡ first + length lines
  pub within : entries_among lines ≤ most_entries
  pub none : StandsNone (last_line before lines) rest
  pub cut : IsWhole (last_line before lines) rest → ⊥

-- Behind this line there are more entries than there may be.
pub record HasTooManyBehind (before : Option PackLine) (bytes : List ℕ) : Type 0 where
  pub lines : List PackLine
  pub e : Entry
  pub rest : List ℕ
  pub stand : Stand before bytes (lines ++ entry_line e ∷ []) rest
  pub full : entries_among lines ≡ most_entries

-- The tables and the end of the pack stand after a body, and nothing after them.
pub record EndsWithTables (bytes : List ℕ) (ts : List Table) : Type 0 where
  pub stand : (before : List ℕ) →
      Stand (Some (body_line before)) bytes (table_lines ts ++ end_line ∷ []) []
  pub few : entries_in ts ≤ most_entries

-- what the error tells of what stands after a body, after so many lines
abbrev pub RefusesTables : ℕ → List ℕ → PackError → Type 0
RefusesTables first bytes (Syntax k) = (before : List ℕ) →
    IsFaultyBehind (Some (body_line before)) first bytes k
RefusesTables first bytes Limit = (before : List ℕ) →
    HasTooManyBehind (Some (body_line before)) bytes
RefusesTables first bytes NoMemory = Unit {0}

-- As many marks as stand at the front after a total are these.
pub record TakesMarks (bytes : List ℕ) (ms : List ℕ) (rest : List ℕ) : Type 0 where
  pub stand : (k : ℕ) → Stand (Some (total_line k)) bytes (map mark_line ms) rest
  pub none : BeginsNone mark_line rest

-- the lines of a pack up to its body
abbrev pub head_lines : ℕ → List ℕ → List ℕ → List PackLine
head_lines k ms bytes =
    version_line ∷ total_line k ∷ (map mark_line ms ++ body_line bytes ∷ [])

-- what the error tells of the lines up to the body
abbrev pub RefusesHead : List ℕ → PackError → Type 0
RefusesHead bytes (Syntax k) = IsFaulty bytes k
RefusesHead bytes Limit = ⊥
RefusesHead bytes NoMemory = Unit {0}

-- the pack of these numbers and tables whose body stands in its text from one place up to another
abbrev pub pack_within : List ℕ → ℕ → List ℕ → ℕ → ℕ → List Table → Pack
pack_within bytes k ms start end ts = record {
  total = k;
  marks = ms;
  body = take (end - start) (drop start bytes);
  tables = ts;
}
