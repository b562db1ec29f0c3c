use Rattle.pv_complete.proofs.OneNeed.{one_need}
use Rattle.pv_complete.proofs.laws.one_need_law.Goals as goal

pub returns : goal.returns
returns g c = one_need _ c.live_lists_law.ensures
