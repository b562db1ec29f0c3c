use Rattle.pv_missing.proofs.VerdictLists.{one_list_of_verdicts}
use Rattle.pv_missing.proofs.laws.verdicts.one_list_of_verdicts_law.Goals as goal

pub returns : goal.returns
returns g c = one_list_of_verdicts _
