use Rattle.pv_session.specs.Answers.{edit_answer}
use Rattle.pv_conversation.proofs.OpenedSessions.{edited_keeps}
use Rattle.pv_conversation.proofs.opened_session.OpenedSession.edit.Goals as goal

pub invariant_of-self : goal.invariant_of-self
invariant_of-self g c =
    let s = c.self.inside.session in
    let t = c.edit.new.self in
    let kept = edited_keeps c.self.inside.remembered s t c.args.edit.now (edit_answer c.edit.result) c.edit.ensures.stepped (c.self.invariant.prolog, c.self.invariant.remembers) in
    record { prolog = kept.0; remembers = kept.1 }
