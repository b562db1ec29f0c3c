use Rattle.std.proofs.Common.{List, subst, sym, ℕ}
use Rattle.pv_tree.specs.Prolog.{IsProlog}
use Rattle.pv_conversation.proofs.opened_session.OpenedSession.complete.Goals as goal

pub completion_reply-requires-clause-remembers : goal.completion_reply-requires-clause-remembers
completion_reply-requires-clause-remembers c = c.self.invariant.remembers

pub completion_reply-requires-clause-prolog : goal.completion_reply-requires-clause-prolog
completion_reply-requires-clause-prolog c =
    let s = c.self.inside.session in
    subst (λ (before : List ℕ). IsProlog s.root before) (sym c.session_law.ensures.same_before)
    c.self.invariant.prolog

pub invariant_of-self : goal.invariant_of-self
invariant_of-self c = record {
  prolog = c.self.invariant.prolog;
  remembers =
      c.completion_reply.ensures.remembers;
}
