use Rattle.pv_cache.proofs.OneGround.{has_one_ground}
use Rattle.pv_cache.proofs.laws.one_ground_law.Goals as goal

pub returns : goal.returns
returns g c = has_one_ground _
