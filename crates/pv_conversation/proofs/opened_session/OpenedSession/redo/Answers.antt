use Rattle.pv_session.specs.Answers.{back_answer}
use Rattle.pv_conversation.proofs.OpenedSessions.{redone_keeps}
use Rattle.pv_conversation.proofs.opened_session.OpenedSession.redo.Goals as goal

pub invariant_of-self : goal.invariant_of-self
invariant_of-self g c =
    let s = c.self.inside.session in
    let t = c.redo.new.self in
    let kept = redone_keeps c.self.inside.remembered s t (back_answer c.redo.result) c.redo.ensures.stepped (c.self.invariant.prolog, c.self.invariant.remembers) in
    record { prolog = kept.0; remembers = kept.1 }
