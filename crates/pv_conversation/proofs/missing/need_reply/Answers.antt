use Rattle.std.proofs.Common.{refl}
use Rattle.pv_conversation.specs.MissingReplies.{is_needed, is_withheld}
use Rattle.pv_conversation.proofs.missing.need_reply.Goals as goal

pub returns-then-is_whole-clause-tells : goal.returns-then-is_whole-clause-tells
returns-then-is_whole-clause-tells c = is_needed 0 (c.if-is_whole.ensures refl) refl

pub returns-in-Some-clause-tells : goal.returns-in-Some-clause-tells
returns-in-Some-clause-tells c = is_withheld (rw c.in-Some.is at c.in_ok-reply.ensures.withholds)

pub need_reply_by-requires-clause-possible : goal.need_reply_by-requires-clause-possible
need_reply_by-requires-clause-possible c = rw c.in-None.is at c.in_ok-reply.ensures.withholds
