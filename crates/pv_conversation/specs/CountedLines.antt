-- What the counter of judged lists counts in a session, line by line.
use Rattle.std.specs.Prelude.{◌≡◌, ◌≤◌, ℕ, suc, ◌+◌, Bool, true, false, List, [], ◌∷◌, ◌++◌}
use Rattle.std.specs.Prelude.{Option, Some, None}
use Rattle.pv_script.specs.Commands.{IsNoCommand, SpellsCommand}
use Rattle.pv_words.specs.Lines.{lines_of}
use Rattle.pv_script.specs.declared.commands.Command.{Command}
use Rattle.pv_script.specs.declared.commands.Command.TheVariants as command
use Rattle.pv_session.specs.Sessions.{PlainSession}
use Rattle.pv_opening.specs.Course.{Course}
use Rattle.pv_conversation.specs.Script.{lines_within}
use Rattle.pv_conversation.specs.Session.{is_among}

-- whether a command is a move
abbrev pub is_move : Command → Bool
is_move (command.Edit edit) = true
is_move command.Undo = true
is_move command.Redo = true
is_move other = false

abbrev pub is_quit : Command → Bool
is_quit command.Quit = true
is_quit other = false

-- what a line counts: a move two lists at most, and any other line none
pub data CountsOneLine (line : List ℕ) (before after : ℕ) : Type 0 where
  counts_move : (c : Command) → SpellsCommand line c → is_move c ≡ true → before ≤ after →
      after ≤ before + 2 → CountsOneLine line before after
  counts_nothing : after ≡ before → CountsOneLine line before after

-- a line doesn't end the session: there was no memory for it, or it is no command, or another one
-- than `quit`
pub data GoesBehind (silent : Bool) (line : List ℕ) : Type 0 where
  was_silent : silent ≡ true → GoesBehind silent line
  no_command : IsNoCommand line → GoesBehind silent line
  no_quit : (c : Command) → SpellsCommand line c → is_quit c ≡ false → GoesBehind silent line

-- the counter before these lines, the first of which has this number, and after them, none of
-- which ended the session; `silent` are the numbers of the lines that there was no memory for
abbrev pub CountsLines : List ℕ → ℕ → List (List ℕ) → ℕ → ℕ → Type 0
CountsLines silent number [] before after = after ≡ before
CountsLines silent number (line ∷ lines) before after =
    (middle : ℕ) × GoesBehind (is_among number silent) line × CountsOneLine line before middle ×
    CountsLines silent (suc number) lines middle after

-- so, over the first of these lines; those after them count nothing
pub record CountsFirst (silent : List ℕ) (lines : List (List ℕ)) (before after : ℕ) : Type 0 where
  pub first : List (List ℕ)
  pub behind : List (List ℕ)
  pub is_cut : lines ≡ first ++ behind
  pub counts : CountsLines silent 1 first before after

-- the lines of a script that have replies: all at its end, and else those that an LF ends before a
-- limit is passed
abbrev pub lines_answered : Bool → List ℕ → List (List ℕ)
lines_answered true script = lines_of script
lines_answered false script = lines_within script

-- what the lines of the bytes that were taken from the input count
abbrev pub CountsTaken : Option (List ℕ) → Bool → List ℕ → ℕ → ℕ → Type 0
CountsTaken None at_end silent before after = after ≡ before
CountsTaken (Some script) at_end silent before after =
    CountsFirst silent (lines_answered at_end script) before after

-- what the lines count that a session took from its input on this course
abbrev pub CountsScript : Course → ℕ → ℕ → Type 0
CountsScript course before after =
    CountsTaken course.taken course.at_end course.silent before after

-- a session, and the counter at it
pub record CountedSession : Type 0 where
  pub session : PlainSession
  pub checked : ℕ

abbrev pub counted : PlainSession → ℕ → CountedSession
counted session checked = record { session = session; checked = checked }
