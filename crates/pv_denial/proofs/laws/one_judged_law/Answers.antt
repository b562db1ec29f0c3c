use Rattle.pv_denial.proofs.OneJudgement.{one_judged}
use Rattle.pv_denial.proofs.laws.one_judged_law.Goals as goal

pub returns : goal.returns
returns g c = one_judged _ c.one_list_at_path_law.ensures
