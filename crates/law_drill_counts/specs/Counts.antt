-- The numbers that a drill tells, by a formula in the number of its sections.
use Rattle.std.specs.Prelude.{◌≡◌, ◌⊎◌, ℕ, ◌+◌, ◌*◌, ◌/◌, Some}
use Rattle.std.specs.Io.KnownBytes.{Appends}
use Rattle.pv_io.specs.Causes.{Rose}
use Rattle.pv_session.specs.Sessions.{PlainSession, stamped_document}
use Rattle.pv_cache.specs.Moves.{HasOpen}
use Rattle.pv_drill.specs.Drill.{drill_lines}
use Rattle.pv_cli.specs.CommandLine.{IsDrillSize, drill}
use Rattle.pv_opening.specs.Course.{Course, responds}
use Rattle.pv_cli.specs.Drill.{CountsReplies, IsDrillCourse, counts_text, drill_stage, no_counts}
use Rattle.pv_opening.specs.Devices.{Devices}
use Rattle.pv_cli.specs.Headline.{HadNoMemory}
use Rattle.pv_cli.specs.Program.{Runs}
use Rattle.pv_opening.specs.Response.{PlainResponse, with_line}
use Rattle.pv_cli.specs.declared.commands.drill.Counts.{Counts}
use Rattle.pv_opening.specs.declared.status.Status.{Status}
use Rattle.pv_opening.specs.declared.status.Status.TheVariants.{Done}

-- Each section has two lines, of which the second is `ok`; each third section has one more, which
-- is `ok` too. A wrapped text changes two lists, and taking that back changes one.
abbrev pub drill_counts : ℕ → Counts
drill_counts n = record {
  lines = 2 * n + n / 3;
  accepted = n + n / 3;
  refused = n;
  checked = 2 * n + n / 3;
}

-- the document of a drill begins a session
abbrev pub DrillsBegin : Type 0
DrillsBegin = (n : ℕ) → IsDrillSize n → (session : PlainSession) ×
    (drill_stage n).Opens session 0

-- Whoever answers the lines of a drill, in the session that its document begins, gets these counts,
-- and each third section is open after them.
abbrev pub CountsByFormula : Type 0
CountsByFormula = (n fetches : ℕ) (session after : PlainSession) (counts : Counts)
    (open_lists : ℕ) → IsDrillSize n →
    (drill_stage n).Opens session fetches →
    CountsReplies session no_counts (drill_lines n) after counts →
    HasOpen (stamped_document after) open_lists →
    (counts ≡ drill_counts n) × (open_lists ≡ n / 3)

-- the response to a drill is the line of these numbers
abbrev pub RespondsByFormula : Type 0
RespondsByFormula = (n : ℕ) (course : Course) (r : PlainResponse) → IsDrillSize n →
    IsDrillCourse n course →
    course.ending ≡ responds r → r ≡ with_line Done (counts_text n (drill_counts n) (n / 3))

-- where no device failed, a run of a drill wrote that line and ended with status 0, or there was no
-- memory and it wrote nothing
abbrev pub PrintsFormula : Type 0 → Type 0
PrintsFormula S = (n : ℕ) (before after : Devices S) (status : Status) → IsDrillSize n →
    Runs (Some (drill n)) before after status →
    (Rose before.shelf.faults after.shelf.faults → ⊥) →
    (Rose before.input.faults after.input.faults → ⊥) →
    (Rose before.output.faults after.output.faults → ⊥) →
    HadNoMemory before after status ⊎ ((status ≡ Done) ×
    Appends before.output.written after.output.written (with_line Done
    (counts_text n (drill_counts n) (n / 3))).output)
