use Rattle.pv_missing.proofs.Counts.{same_verdicts}
use Rattle.pv_missing.proofs.laws.verdicts.same_verdicts_law.Goals as goal

pub returns : goal.returns
returns g c = same_verdicts _ _
