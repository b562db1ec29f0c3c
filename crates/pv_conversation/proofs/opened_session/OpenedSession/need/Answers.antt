use Rattle.pv_conversation.proofs.opened_session.OpenedSession.need.Goals as goal

pub need_reply-requires : goal.need_reply-requires
need_reply-requires c = c.self.invariant.remembers

pub invariant_of-self : goal.invariant_of-self
invariant_of-self c = record { prolog = c.self.invariant.prolog; remembers = c.need_reply.ensures.remembers }
