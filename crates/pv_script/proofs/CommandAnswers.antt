-- What a reader of commands answers.
use Rattle.std.proofs.Common.{◌≡◌, List, ℕ, Result, Ok, Err}
use Rattle.std.specs.Result.{IfOk}
use Rattle.pv_script.specs.Commands.{ReadsAs, SpellsCommand, IsNoCommand}
use Rattle.pv_script.specs.LineReading.{command_of}
use Rattle.pv_script.specs.declared.commands.Command.{Command}
use Rattle.pv_script.specs.declared.errors.CommandError.{CommandError}
use Rattle.pv_script.specs.declared.errors.CommandError.TheVariants.{Unknown, NoMemory}
use Rattle.pv_script.proofs.SpelledLines.{command-spelled, no-command}

pub reads-command : (line : List ℕ) (r : Result Command CommandError) → ReadsAs (command_of line) r → IfOk r (SpellsCommand line)
reads-command line (Ok command) reads = command-spelled line command reads
reads-command line (Err error) reads = tt

pub reads-none : (line : List ℕ) (r : Result Command CommandError) → ReadsAs (command_of line) r → r ≡ Err Unknown → IsNoCommand line
reads-none line (Ok command) reads is = cc
reads-none line (Err Unknown) reads is = no-command line reads
reads-none line (Err NoMemory) reads is = cc
