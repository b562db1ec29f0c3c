-- Laws on what the program does.
use Rattle.std.specs.Prelude.{◌≡◌, ◌⊎◌}
use Rattle.std.specs.Prelude.{Option}
use Rattle.std.specs.Io.KnownBytes.{Appends}
use Rattle.pv_io.specs.Causes.{Rose}
use Rattle.pv_opening.specs.declared.status.Status.{Status}
use Rattle.pv_cli.specs.CommandLine.{PlainCommandLine}
use Rattle.pv_opening.specs.Course.{responds}
use Rattle.pv_cli.specs.Headline.{GuardsSession, HadNoMemory}
use Rattle.pv_opening.specs.Devices.{Devices}
use Rattle.pv_cli.specs.Program.{Runs}
use Rattle.pv_opening.specs.Response.{PlainResponse}

-- a defined response was written
pub record Answered {S : Type 0} {line : Option PlainCommandLine} {before after : Devices S}
    {status : Status} (run : Runs line before after status) : Type 0 where
  pub response : PlainResponse
  pub is_response : run.course.ending ≡ responds response
  pub is_status : status ≡ response.status
  pub written : Appends before.output.written after.output.written response.output

-- where no count of faults rose, a defined response was written, or there was no memory and nothing
-- was written
abbrev pub AnswersWithoutFault : Type 0 → Type 0
AnswersWithoutFault S = (line : Option PlainCommandLine) (before after : Devices S)
    (status : Status) (run : Runs line before after status) →
    (Rose before.shelf.faults after.shelf.faults → ⊥) →
    (Rose before.input.faults after.input.faults → ⊥) →
    (Rose before.output.faults after.output.faults → ⊥) →
    HadNoMemory before after status ⊎ Answered run

-- a session answers its whole script, where nothing stands against it
abbrev pub SessionsAreGuarded : Type 0 → Type 0
SessionsAreGuarded S = (line : Option PlainCommandLine) (before after : Devices S) (status : Status)
    → Runs line before after status → GuardsSession line before after status
