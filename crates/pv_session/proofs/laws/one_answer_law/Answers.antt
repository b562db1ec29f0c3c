use Rattle.pv_session.proofs.Steps.{one_answer}
use Rattle.pv_session.proofs.laws.one_answer_law.Goals as goal

pub returns : goal.returns
returns c = one_answer c.one_open_law.ensures c.one_bad_law.ensures c.accepted_law.ensures c.one_ground_law.ensures
