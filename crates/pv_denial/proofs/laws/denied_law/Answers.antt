use Rattle.pv_denial.proofs.DeniedLists.{denied}
use Rattle.pv_denial.proofs.laws.denied_law.Goals as goal

pub returns : goal.returns
returns g c = denied _ c.denied_list_law.ensures c.live_lists_law.ensures
