use Rattle.std.proofs.Common.{refl}
use Rattle.pv_script.specs.declared.commands.Command.TheVariants.{Edit}
use Rattle.pv_script.specs.declared.replies.Reply.TheVariants.{Okay, Shape, Impossible, Limit}
use Rattle.pv_session.specs.Steps.{is_done, lacks_shape, is_past_limit, is_impossible}
use Rattle.pv_conversation.proofs.Moves.{edit_counted}
use Rattle.pv_conversation.proofs.ReplyTexts.{replies_by}
use Rattle.pv_conversation.proofs.turns.edit.Goals as goal

pub returns-in-Err-Shape-clause-replied : goal.returns-in-Err-Shape-clause-replied
returns-in-Err-Shape-clause-replied g c =
    let step = rw c.in-Err-Shape.field-0-is at c.in-Err-Shape.ensures.stepped in
    replies_by _ _ (Edit c.args.edit.now) (Shape c.in-Err-Shape.reason) c.other.result (lacks_shape c.in-Err-Shape.reason, step, refl, tt) c.other.ensures

pub returns-in-Err-Impossible-clause-replied : goal.returns-in-Err-Impossible-clause-replied
returns-in-Err-Impossible-clause-replied g c =
    let step = rw c.in-Err-Impossible.field-0-is at c.in-Err-Impossible.ensures.stepped in
    replies_by _ _ (Edit c.args.edit.now) (Impossible c.in-Err-Impossible.path) c.other-in-Err-Impossible.result
    (is_impossible c.in-Err-Impossible.path, step, refl, tt) c.other-in-Err-Impossible.ensures

pub returns-in-Err-Limit-clause-replied : goal.returns-in-Err-Limit-clause-replied
returns-in-Err-Limit-clause-replied g c =
    let step = rw c.in-Err-Limit.field-0-is at c.in-Err-Limit.ensures.stepped in
    replies_by _ _ (Edit c.args.edit.now) Limit c.other-in-Err-Limit.result (is_past_limit, step, refl, tt) c.other-in-Err-Limit.ensures

pub returns-in-Ok-clause-replied : goal.returns-in-Ok-clause-replied
returns-in-Ok-clause-replied g c =
    let done = c.in-Ok.done in
    (Okay done, (is_done done.checked done.left done.bad, c.in-Ok.ensures.stepped, refl, c.made.ensures.tells), c.made.ensures.answers)

pub made-requires-clause-few : goal.made-requires-clause-few
made-requires-clause-few g c = (edit_counted _ c.args.edit.now _ _ _ _ c.in-Ok.ensures.stepped).few

pub made-requires-clause-bad : goal.made-requires-clause-bad
made-requires-clause-bad g c = (edit_counted _ c.args.edit.now _ _ _ _ c.in-Ok.ensures.stepped).has
