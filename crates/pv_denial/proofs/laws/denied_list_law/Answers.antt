use Rattle.pv_denial.proofs.DeniedLists.{denied_list}
use Rattle.pv_denial.proofs.laws.denied_list_law.Goals as goal

pub returns : goal.returns
returns g c = denied_list _ c.live_follows_law.ensures c.owner_productive_law.ensures c.possible_derives_law.ensures c.barrier_law.ensures c.barrier_rows_law.ensures
