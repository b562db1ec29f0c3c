-- The text of a denial, line by line.
use Rattle.std.specs.Prelude.{◌≡◌, ℕ, List, [], ◌∷◌, ◌++◌, map, Option, Some, None}
use Rattle.pv_rules.specs.PlainForms.{plain_site}
use Rattle.pv_denial.specs.Rows.{IsSiteBefore}
use Rattle.pv_denial.specs.declared.denials.Denial.{Denial}
use Rattle.pv_denial.specs.declared.denials.Row.{Row}
use Rattle.pv_denial_text.specs.Lines.{DenialLine, IsInRange, cause_line, end_line, line_text}
use Rattle.pv_denial_text.specs.Lines.{list_line, row_line, version_line}

-- a row of this property, or the end
abbrev pub IsRowOrEnd : (Row → Type 0) → DenialLine → Type 0
IsRowOrEnd MayStand (row_line r) = MayStand r
IsRowOrEnd MayStand end_line = Unit {0}
IsRowOrEnd MayStand _ = ⊥

-- the first row's site is before the second's
abbrev pub IsRowBefore : Row → Row → Type 0
IsRowBefore q r = IsSiteBefore (plain_site q.site) (plain_site r.site)

-- The line may stand after this one, or at the start of a text where there is none: the version,
-- the list, the cause, any number of rows, and the end. Rows ascend strictly by kind and number.
abbrev pub MayFollow : Option DenialLine → DenialLine → Type 0
MayFollow None version_line = Unit {0}
MayFollow (Some version_line) (list_line path) = Unit {0}
MayFollow (Some (list_line path)) (cause_line c) = Unit {0}
MayFollow (Some (cause_line c)) line = IsRowOrEnd (λ r. Unit {0}) line
MayFollow (Some (row_line q)) line = IsRowOrEnd (IsRowBefore q) line
MayFollow _ line = ⊥

-- each line is in range and may stand after the one before it, the first one after this
abbrev pub AreLines : Option DenialLine → List DenialLine → Type 0
AreLines before [] = Unit {0}
AreLines before (line ∷ lines) =
    MayFollow before line × IsInRange line × AreLines (Some line) lines

-- the last of some lines after this one
abbrev pub last_line : Option DenialLine → List DenialLine → Option DenialLine
last_line before [] = before
last_line before (line ∷ lines) = last_line (Some line) lines

-- the bytes of some lines
abbrev pub lines_text : List DenialLine → List ℕ
lines_text [] = []
lines_text (line ∷ lines) = line_text line ++ lines_text lines

-- the lines of a denial
abbrev pub lines_of_denial : Denial → List DenialLine
lines_of_denial d =
    version_line ∷ list_line d.path ∷ cause_line d.cause
    ∷ (map row_line d.rows ++ end_line ∷ [])

-- The bytes are the lines of the denial, limits aside: its text.
pub record IsDenialText (bytes : List ℕ) (d : Denial) : Type 0 where
  pub are_lines : AreLines None (lines_of_denial d)
  pub spelled : bytes ≡ lines_text (lines_of_denial d)
