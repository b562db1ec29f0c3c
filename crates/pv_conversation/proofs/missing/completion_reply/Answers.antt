use Rattle.pv_conversation.specs.MissingReplies.{is_not_completed}
use Rattle.pv_conversation.proofs.missing.completion_reply.Goals as goal

pub returns-in-Some-clause-tells : goal.returns-in-Some-clause-tells
returns-in-Some-clause-tells c = is_not_completed
    (rw c.in-Some.is at c.in_ok-reply.ensures.withholds)

pub completion_reply_by-requires-clause-possible : goal.completion_reply_by-requires-clause-possible
completion_reply_by-requires-clause-possible c = rw c.in-None.is at c.in_ok-reply.ensures.withholds
