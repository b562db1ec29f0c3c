use Rattle.pv_conversation.proofs.opened_session.OpenedSession.of.Goals as goal

pub invariant_of-result : goal.invariant_of-result
invariant_of-result c = record { prolog = c.requires; remembers = c.nothing.ensures c.args.session.dtd }
