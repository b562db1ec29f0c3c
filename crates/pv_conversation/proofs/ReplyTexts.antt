-- The replies to commands.
use Rattle.std.proofs.Common.{Result, Ok, Err, IfOk}
use Rattle.pv_script.specs.declared.commands.Command.{Command}
use Rattle.pv_script.specs.declared.replies.Reply.{Reply}
use Rattle.pv_session.specs.Sessions.{PlainSession}
use Rattle.pv_conversation.specs.declared.answers.Answer.{Answer}
use Rattle.pv_conversation.specs.Session.{RepliesBy}
use Rattle.pv_conversation.specs.Turns.{IsAnswerOf, IsReplyBy}

-- where an answer is the reply to a command
pub replies_by : {E : Type 0} (before after : PlainSession) (command : Command) (told : Reply) (result : Result Answer E) →
    RepliesBy before command told after → IfOk result (λ answer. IsAnswerOf told answer) →
    IfOk result (λ answer. IsReplyBy before command after answer)
replies_by before after command told (Ok answer) by is = (told, by, is)
replies_by before after command told (Err e) by is = tt
