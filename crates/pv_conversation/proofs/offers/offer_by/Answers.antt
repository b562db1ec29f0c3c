use Rattle.std.proofs.Common.{refl}
use Rattle.pv_offer.specs.declared.errors.OfferError.TheVariants as why
use Rattle.pv_script.specs.declared.commands.Command.TheVariants as command
use Rattle.pv_script.specs.declared.replies.Reply.TheVariants as reply
use Rattle.pv_conversation.specs.Offers.{is_not_offered, is_offered}
use Rattle.pv_conversation.proofs.ReplyTexts.{replies_by}
use Rattle.pv_conversation.proofs.offers.offer_by.Goals as goal

pub returns-in-Ok : goal.returns-in-Ok
returns-in-Ok g c =
    let now = c.args.session.now in
    let can = rw c.marked.ensures at c.in-Ok.ensures.asked in
    let are = rw c.marked.ensures at c.in-Ok.ensures.offered in
    replies_by now now (command.Offer c.args.ask.now) (reply.Offer c.in-Ok.names) c.other.result
    (is_offered c.in-Ok.names can are refl, refl) c.other.ensures

pub returns-in-Err-Shape : goal.returns-in-Err-Shape
returns-in-Err-Shape g c =
    let now = c.args.session.now in
    let ground = rw (c.marked.ensures, c.in-Err-Shape.field-0-is) at c.in-Err-Shape.ensures.refused
    in
    replies_by now now (command.Offer c.args.ask.now) (reply.Shape c.in-Err-Shape.reason)
    c.other-in-Err-Shape.result (
      is_not_offered (why.Shape c.in-Err-Shape.reason) ground refl,
      refl,
    )
    c.other-in-Err-Shape.ensures

pub returns-in-Err-Limit : goal.returns-in-Err-Limit
returns-in-Err-Limit g c =
    let now = c.args.session.now in
    let ground = rw (c.marked.ensures, c.in-Err-Limit.field-0-is) at c.in-Err-Limit.ensures.refused
    in
    replies_by now now (command.Offer c.args.ask.now) reply.Limit c.other-in-Err-Limit.result
    (is_not_offered why.Limit ground refl, refl) c.other-in-Err-Limit.ensures
