use Rattle.pv_long.proofs.ExactAnswers.{one_least}
use Rattle.pv_long.proofs.laws.one_least_law.Goals as goal

pub returns : goal.returns
returns c = one_least
