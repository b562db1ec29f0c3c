use Rattle.pv_session.proofs.Ways.{one_replay}
use Rattle.pv_session.proofs.laws.replay_law.Goals as goal

pub returns : goal.returns
returns c = one_replay
