-- What the program does over the machine's files and streams, which tell nothing of their bytes.
use Rattle.std.specs.Prelude.{◌≡◌, Option, None}
use Rattle.pv_io.specs.Causes.{never_asked}
use Rattle.pv_cli.specs.CommandLine.{PlainCommandLine}
use Rattle.pv_opening.specs.Devices.{Devices, InputNow, devices, input_at, shelf_at}
use Rattle.pv_cli.specs.Program.{Runs}
use Rattle.pv_opening.specs.declared.status.Status.{Status}

-- an input, apart from what it is
abbrev pub told_of : {S : Type 0} → InputNow S → InputNow (Unit {0})
told_of input = input_at tt input.left input.calls input.faults

abbrev pub all_told_of : {S : Type 0} → Devices S → Devices (Unit {0})
all_told_of now = devices now.shelf (told_of now.input) now.output now.checked

-- A run whose devices were neither asked nor failed before: it starts with a shelf that tells no
-- file, and ends so that the counts of its devices show it.
pub record RunsHere (line : Option PlainCommandLine) (status : Status) : Type 0 where
  pub before : Devices (Unit {0})
  pub after : Devices (Unit {0})
  pub shelf : before.shelf ≡ shelf_at None 0 0
  pub input_calls : before.input.calls ≡ never_asked
  pub input_faults : before.input.faults ≡ 0
  pub output_faults : before.output.faults ≡ 0
  pub runs : Runs line before after status
