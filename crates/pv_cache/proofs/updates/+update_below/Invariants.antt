use Rattle.std.proofs.Common.{length}
use Rattle.pv_cache.proofs.updates.+update_below.Given as goal

abbrev pub decreases-update_below : goal.decreases-update_below
decreases-update_below l = length l.path.now
