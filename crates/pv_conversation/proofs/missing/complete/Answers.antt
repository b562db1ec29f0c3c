use Rattle.pv_script.specs.declared.commands.Command.TheVariants as command
use Rattle.pv_script.specs.declared.replies.Reply.TheVariants as reply
use Rattle.pv_conversation.proofs.ReplyTexts.{replies_by}
use Rattle.pv_conversation.proofs.missing.complete.Goals as goal

pub returns-in-Completed-clause-replied : goal.returns-in-Completed-clause-replied
returns-in-Completed-clause-replied c =
    let told = reply.Completed c.in-Completed.count c.in-Completed.body in
    let tells = rw c.in-Completed.is at c.in_ok-reply.ensures.tells in
    replies_by _ _ command.Complete told c.completed.result
    (tells, c.in_ok-reply.ensures.same) c.completed.ensures

pub returns-in_default-clause-replied : goal.returns-in_default-clause-replied
returns-in_default-clause-replied c =
    replies_by _ _ command.Complete c.in_ok-reply.reply c.other.result
    (c.in_ok-reply.ensures.tells, c.in_ok-reply.ensures.same) c.other.ensures
