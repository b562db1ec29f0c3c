-- The text of a pack, line by line.
use Rattle.std.specs.Prelude.{◌≡◌, ℕ, List, [], ◌∷◌, ◌++◌, map, Option, Some, None}
use Rattle.pv_tables.specs.Tables.{Precedes}
use Rattle.pv_tables.specs.declared.tables.Entry.{Entry}
use Rattle.pv_tables.specs.declared.tables.Table.{Table}
use Rattle.pv_cert.specs.Lines.{IsInRange, PackLine, body_line, end_line, entry_line, line_text}
use Rattle.pv_cert.specs.Lines.{list_line, mark_line, total_line, version_line}
use Rattle.pv_cert.specs.declared.packs.Pack.{Pack}

abbrev pub IsMarkOrBody : PackLine → Type 0
IsMarkOrBody (mark_line m) = Unit {0}
IsMarkOrBody (body_line bytes) = Unit {0}
IsMarkOrBody _ = ⊥

-- the head of a table, an entry of this property, or the end of the pack
abbrev pub IsOfTables : (Entry → Type 0) → PackLine → Type 0
IsOfTables MayStand (list_line path) = Unit {0}
IsOfTables MayStand (entry_line e) = MayStand e
IsOfTables MayStand end_line = Unit {0}
IsOfTables MayStand _ = ⊥

-- The line may stand after this one, or at the start of a pack where there is none: the version,
-- the total, any number of marks, the body, then tables, and the end. The entries of a table
-- ascend strictly by kind, number and span.
abbrev pub MayFollow : Option PackLine → PackLine → Type 0
MayFollow None version_line = Unit {0}
MayFollow (Some version_line) (total_line k) = Unit {0}
MayFollow (Some (total_line k)) line = IsMarkOrBody line
MayFollow (Some (mark_line m)) line = IsMarkOrBody line
MayFollow (Some (body_line bytes)) line = IsOfTables (λ e. ⊥) line
MayFollow (Some (list_line path)) line = IsOfTables (λ e. Unit {0}) line
MayFollow (Some (entry_line e)) line = IsOfTables (Precedes e) line
MayFollow _ line = ⊥

-- each line is in range and may stand after the one before it, the first one after this
abbrev pub AreLines : Option PackLine → List PackLine → Type 0
AreLines before [] = Unit {0}
AreLines before (line ∷ lines) =
    MayFollow before line × IsInRange line × AreLines (Some line) lines

-- the last of some lines after this one
abbrev pub last_line : Option PackLine → List PackLine → Option PackLine
last_line before [] = before
last_line before (line ∷ lines) = last_line (Some line) lines

-- the bytes of some lines
abbrev pub lines_text : List PackLine → List ℕ
lines_text [] = []
lines_text (line ∷ lines) = line_text line ++ lines_text lines

-- the lines of a table: its path, and its entries
abbrev pub lines_of_table : Table → List PackLine
lines_of_table t = list_line t.path ∷ map entry_line t.entries

abbrev pub table_lines : List Table → List PackLine
table_lines [] = []
table_lines (t ∷ ts) = lines_of_table t ++ table_lines ts

-- the lines of a pack
abbrev pub lines_of_pack : Pack → List PackLine
lines_of_pack pack =
    version_line ∷ total_line pack.total
    ∷ (map mark_line pack.marks
    ++ (body_line pack.body ∷ (table_lines pack.tables ++ end_line ∷ [])))

-- The bytes are the lines of the pack, limits aside: its text.
pub record IsPackText (bytes : List ℕ) (pack : Pack) : Type 0 where
  pub are_lines : AreLines None (lines_of_pack pack)
  pub spelled : bytes ≡ lines_text (lines_of_pack pack)
