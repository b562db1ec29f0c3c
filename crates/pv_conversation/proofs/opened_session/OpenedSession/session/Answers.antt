use Rattle.std.proofs.Common.{List, subst, sym, ℕ}
use Rattle.pv_tree.specs.Prolog.{IsProlog}
use Rattle.pv_conversation.proofs.opened_session.OpenedSession.session.Goals as goal

pub returns-clause-prolog : goal.returns-clause-prolog
returns-clause-prolog c =
    let s = c.self.inside.session in
    subst (λ (before : List ℕ). IsProlog s.root before) (sym c.session_law.ensures.same_before) c.self.invariant.prolog
