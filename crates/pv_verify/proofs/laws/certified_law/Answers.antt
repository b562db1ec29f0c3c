use Rattle.pv_verify.proofs.LeastByTests.{accepted_is_least}
use Rattle.pv_verify.proofs.laws.certified_law.Goals as goal

pub returns : goal.returns
returns g c = accepted_is_least _ c.some_bounds_law.ensures c.tags_extend_law.ensures c.closed_is_bound_law.ensures c.one_list_at_path_law.ensures
