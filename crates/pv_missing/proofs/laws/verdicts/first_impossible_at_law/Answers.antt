use Rattle.pv_missing.proofs.VerdictsByNumber.{first_impossible_at}
use Rattle.pv_missing.proofs.laws.verdicts.first_impossible_at_law.Goals as goal

pub returns : goal.returns
returns g c = first_impossible_at _
