use Rattle.pv_script.specs.declared.commands.Command.TheVariants as command
use Rattle.pv_conversation.proofs.ReplyTexts.{replies_by}
use Rattle.pv_conversation.proofs.missing.need.Goals as goal

pub returns-clause-replied : goal.returns-clause-replied
returns-clause-replied c =
    replies_by _ _ command.Need c.in_ok-reply.reply c.other.result (c.in_ok-reply.ensures.tells, c.in_ok-reply.ensures.same) c.other.ensures
