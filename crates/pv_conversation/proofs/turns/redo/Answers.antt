use Rattle.std.proofs.Common.{refl}
use Rattle.pv_script.specs.declared.commands.Command.TheVariants.{Redo}
use Rattle.pv_script.specs.declared.replies.Reply.TheVariants.{NoHistory, Okay}
use Rattle.pv_session.specs.Steps.{is_done, lacks_history}
use Rattle.pv_conversation.proofs.Moves.{redo_counted}
use Rattle.pv_conversation.proofs.ReplyTexts.{replies_by}
use Rattle.pv_conversation.proofs.turns.redo.Goals as goal

pub returns-in-Err-NoHistory-clause-replied : goal.returns-in-Err-NoHistory-clause-replied
returns-in-Err-NoHistory-clause-replied g c =
    let step = rw c.in-Err-NoHistory.field-0-is at c.in-Err-NoHistory.ensures.stepped in
    replies_by _ _ Redo NoHistory c.other.result (lacks_history, step, refl, tt) c.other.ensures

pub returns-in-Ok-clause-replied : goal.returns-in-Ok-clause-replied
returns-in-Ok-clause-replied g c =
    let done = c.in-Ok.done in
    (Okay done, (is_done done.checked done.left done.bad, c.in-Ok.ensures.stepped, refl, c.made.ensures.tells), c.made.ensures.answers)

pub made-requires-clause-few : goal.made-requires-clause-few
made-requires-clause-few g c = (redo_counted _ _ _ _ _ c.in-Ok.ensures.stepped).few

pub made-requires-clause-bad : goal.made-requires-clause-bad
made-requires-clause-bad g c = (redo_counted _ _ _ _ _ c.in-Ok.ensures.stepped).has
