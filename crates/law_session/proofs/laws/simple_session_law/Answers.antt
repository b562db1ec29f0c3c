use Rattle.law_session.proofs.SimpleDtds.{simple_sessions}
use Rattle.law_session.proofs.laws.simple_session_law.Goals as goal

pub returns : goal.returns
returns g c = simple_sessions _ c.unchanged_law.ensures
