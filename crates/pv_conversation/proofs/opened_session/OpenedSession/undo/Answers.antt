use Rattle.pv_session.specs.Answers.{back_answer}
use Rattle.pv_conversation.proofs.OpenedSessions.{undone_keeps}
use Rattle.pv_conversation.proofs.opened_session.OpenedSession.undo.Goals as goal

pub invariant_of-self : goal.invariant_of-self
invariant_of-self g c =
    let s = c.self.inside.session in
    let t = c.undo.new.self in
    let kept = undone_keeps c.self.inside.remembered s t (back_answer c.undo.result) c.undo.ensures.stepped (c.self.invariant.prolog, c.self.invariant.remembers) in
    record { prolog = kept.0; remembers = kept.1 }
