use Rattle.std.proofs.Common.{subst}
use Rattle.pv_session.specs.SessionFacts.{IsSession}
use Rattle.pv_session.proofs.Moves.{is_session}
use Rattle.pv_session.proofs.session.Session.invariant_law.Goals as goal

pub returns : goal.returns
returns c =
    let i = c.self.inside in
    subst IsSession c.self.view_is (is_session c.leads_back_law.ensures c.other_marks_law.ensures i.marked i.past.items i.ways_back.items i.undone.items i.moves c.self.invariant)
