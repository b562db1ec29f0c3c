-- What holds of lines and commands.
use Rattle.std.specs.Prelude.{◌≡◌, ℕ, List, ◌∷◌, ◌++◌, ◌⊎◌}
use Rattle.pv_tree.specs.Plain.{PlainDoc}
use Rattle.pv_edit.specs.Reasons.{edit_outcome, gives}
use Rattle.pv_edit.specs.declared.edits.Edit.{Edit}
use Rattle.pv_script.specs.Commands.{SpellsCommand, IsNoCommand}
use Rattle.pv_script.specs.Edits.{edit_text, numbers_in}
use Rattle.pv_words.specs.Numbers.{AreNumbers}
use Rattle.pv_words.specs.Lines.{lines_of}
use Rattle.pv_words.specs.Words.{with_feed}
use Rattle.pv_script.specs.declared.commands.Command.{Command}
use Rattle.pv_script.specs.declared.commands.Command.TheVariants as command

-- A line spells at most one command.
abbrev pub OneCommand : Type 0
OneCommand = (line : List ℕ) (one other : Command) → SpellsCommand line one →
    SpellsCommand line other → one ≡ other

-- A line spells a command, or none.
abbrev pub CommandOrNone : Type 0
CommandOrNone =
    (line : List ℕ) → ((command : Command) × SpellsCommand line command) ⊎ IsNoCommand line

-- The line of an edit that applies to some document is cut out of a script as it is, whatever
-- follows it, and spells that edit.
abbrev pub EditsAreReadAgain : Type 0 → Type 0
EditsAreReadAgain M =
    (blank : M) (doc made : PlainDoc M) (edit : Edit) → edit_outcome blank doc edit ≡ gives made →
    AreNumbers (numbers_in edit) → (more : List ℕ) →
    (lines_of (with_feed (edit_text edit) ++ more) ≡ edit_text edit ∷ lines_of more)
    × SpellsCommand (edit_text edit) (command.Edit edit)
