use Rattle.pv_cache.proofs.OneGround.{no_ground_of_accepted}
use Rattle.pv_cache.proofs.laws.accepted_law.Goals as goal

pub returns : goal.returns
returns g c = no_ground_of_accepted _ _
