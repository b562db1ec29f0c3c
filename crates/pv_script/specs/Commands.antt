-- The commands of a script, and the lines that spell them.
use Rattle.std.specs.Prelude.{◌≡◌, ℕ, List, [], codes, Option, Some, None, Result, Ok, Err}
use Rattle.pv_script.specs.Asks.{ask_text, numbers_asked}
use Rattle.pv_script.specs.Edits.{edit_text, numbers_in}
use Rattle.pv_words.specs.Numbers.{AreNumbers}
use Rattle.pv_script.specs.declared.commands.Command.{Command}
use Rattle.pv_script.specs.declared.commands.Command.TheVariants as command
use Rattle.pv_script.specs.declared.errors.CommandError.{CommandError}
use Rattle.pv_script.specs.declared.errors.CommandError.TheVariants.{Unknown, NoMemory}

-- the line of a command
abbrev pub command_text : Command → List ℕ
command_text (command.Edit edit) = edit_text edit
command_text command.Undo = codes "undo"
command_text command.Redo = codes "redo"
command_text command.History = codes "history"
command_text command.Show = codes "show"
command_text command.Verdicts = codes "verdicts"
command_text command.Need = codes "need"
command_text command.Complete = codes "complete"
command_text (command.Offer ask) = ask_text ask
command_text command.Quit = codes "quit"

-- the numbers in it
abbrev pub command_numbers : Command → List ℕ
command_numbers (command.Edit edit) = numbers_in edit
command_numbers (command.Offer ask) = numbers_asked ask
command_numbers _ = []

-- The line spells the command. No number in it is past the largest.
pub record SpellsCommand (line : List ℕ) (command : Command) : Type 0 where
  pub text : line ≡ command_text command
  pub numbers : AreNumbers (command_numbers command)

-- the line is no command
abbrev pub IsNoCommand : List ℕ → Type 0
IsNoCommand line = (command : Command) → SpellsCommand line command → ⊥

-- What a reader made of what it was given: a value, that there is none, or no answer for want of
-- memory.
abbrev pub ReadsAs : {A : Type 0} → Option A → Result A CommandError → Type 0
ReadsAs o (Ok x) = o ≡ Some x
ReadsAs o (Err Unknown) = o ≡ None
ReadsAs o (Err NoMemory) = Unit {0}
