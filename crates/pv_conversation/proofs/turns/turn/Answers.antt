use Rattle.std.proofs.Common.{◌≡◌, ◌≤◌, ◌+◌, ℕ, List, Bool, true, false, refl, subst, Result, Ok, Err, Some, None, Option, IfOk}
use Rattle.pv_script.specs.Commands.{SpellsCommand}
use Rattle.pv_script.specs.declared.commands.Command.{Command}
use Rattle.pv_script.specs.declared.replies.Reply.TheVariants.{NoCommand}
use Rattle.pv_session.specs.Sessions.{PlainSession}
use Rattle.pv_conversation.specs.declared.answers.Answer.{Answer}
use Rattle.pv_conversation.specs.CountedLines.{CountsOneLine, counts_move, counts_nothing, is_move}
use Rattle.pv_conversation.specs.Session.{unknown, known}
use Rattle.pv_conversation.specs.Turns.{IsFollowed, IsTurn}
use Rattle.pv_conversation.proofs.turns.turn.Goals as goal

-- a command that a line spells is followed
turned : {E : Type 0} (before : PlainSession) (line : List ℕ) (command : Command) (after : PlainSession) → SpellsCommand line command → (result : Result (Option Answer) E) →
    IfOk result (IsFollowed before command after) → IfOk result (IsTurn before line after)
turned before line command after spells (Ok None) is = (subst (SpellsCommand line) is.0 spells, is.1)
turned before line command after spells (Ok (Some answer)) by = (by.0, known command spells by.1, by.2)
turned before line command after spells (Err e) h = tt

-- and counts what the command does
counted : (line : List ℕ) (command : Command) (before after : ℕ) → SpellsCommand line command → (is_move command ≡ false → after ≡ before) →
    before ≤ after → after ≤ before + 2 →
    CountsOneLine line before after
counted line command before after spells none later most = by (is_move command) refl
  where
    by : (b : Bool) → is_move command ≡ b → CountsOneLine line before after
    by true is = counts_move command spells is later most
    by false is = counts_nothing (none is)

pub returns-in-Ok-clause-turned : goal.returns-in-Ok-clause-turned
returns-in-Ok-clause-turned g c = turned _ _ c.in-Ok.command _ c.in-Ok.ensures.read c.follow.result c.follow.ensures.followed

pub returns-in-Ok-clause-counts : goal.returns-in-Ok-clause-counts
returns-in-Ok-clause-counts g c = counted _ c.in-Ok.command _ _ c.in-Ok.ensures.read c.follow.ensures.counts c.follow.ensures.later c.follow.ensures.steps

pub returns-in-Err-Unknown-clause-turned : goal.returns-in-Err-Unknown-clause-turned
returns-in-Err-Unknown-clause-turned g c =
    let none = (rw c.in-Err-Unknown.field-0-is at c.in-Err-Unknown.ensures.unknown) refl in
    (NoCommand, unknown none refl refl, c.no_command.ensures)

pub returns-in-Err-Unknown-clause-counts : goal.returns-in-Err-Unknown-clause-counts
returns-in-Err-Unknown-clause-counts g c = counts_nothing refl

pub returns-in-Err-NoMemory-clause-counts : goal.returns-in-Err-NoMemory-clause-counts
returns-in-Err-NoMemory-clause-counts g c = counts_nothing refl
