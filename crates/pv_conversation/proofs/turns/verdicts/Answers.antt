use Rattle.std.proofs.Common.{refl}
use Rattle.pv_script.specs.declared.commands.Command.TheVariants.{Verdicts as tells_verdicts}
use Rattle.pv_script.specs.declared.replies.Reply.TheVariants.{Verdicts}
use Rattle.pv_conversation.proofs.ReplyTexts.{replies_by}
use Rattle.pv_conversation.proofs.turns.verdicts.Goals as goal

pub returns : goal.returns
returns c =
    let now = c.args.session.now in
    let rows = c.in_ok-rows.rows in
    replies_by now now tells_verdicts (Verdicts rows) c.other.result (rows, refl, c.in_ok-rows.ensures, refl) c.other.ensures
