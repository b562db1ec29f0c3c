use Rattle.pv_cache.proofs.EditsWithoutGround.{exactly_without}
use Rattle.pv_cache.proofs.laws.without_ground_law.Goals as goal

pub returns : goal.returns
returns g c = exactly_without _ c.changes_law.ensures c.changed_lists_law.ensures.made
