use Rattle.std.proofs.Common.{subst}
use Rattle.std.specs.Prelude.{IfOk}
use Rattle.pv_script.specs.declared.commands.Command.TheVariants as command
use Rattle.pv_session.specs.Sessions.{PlainSession}
use Rattle.pv_conversation.specs.Turns.{IsReplyBy}
use Rattle.pv_conversation.proofs.offers.offer.Goals as goal

pub returns-clause-replied : goal.returns-clause-replied
returns-clause-replied g c =
    let asked = command.Offer c.args.ask.now in
    let mid = c.keep_for.new.self in
    subst (λ (s : PlainSession). IfOk c.offer_by.result (IsReplyBy s asked mid)) c.keep_for.ensures
    (subst (λ (s : PlainSession). IfOk c.offer_by.result (IsReplyBy s asked s))
    c.session.ensures.same c.offer_by.ensures)
