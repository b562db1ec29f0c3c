use Rattle.pv_missing.proofs.Counts.{same_counts}
use Rattle.pv_missing.proofs.laws.verdicts.same_counts_law.Goals as goal

pub returns : goal.returns
returns g c = same_counts _ _
