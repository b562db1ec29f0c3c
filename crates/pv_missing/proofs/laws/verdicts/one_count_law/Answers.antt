use Rattle.pv_missing.proofs.Counts.{one_count_of_lists}
use Rattle.pv_missing.proofs.laws.verdicts.one_count_law.Goals as goal

pub returns : goal.returns
returns g c = one_count_of_lists _
