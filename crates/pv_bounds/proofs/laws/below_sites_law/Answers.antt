use Rattle.pv_bounds.proofs.ListBounds.{is_bound}
use Rattle.pv_bounds.proofs.laws.below_sites_law.Goals as goal

pub returns : goal.returns
returns g c = λ h root list s t proper site below.
    is_bound c.live_misses_law.ensures c.derivations_miss_law.ensures h root list s t proper site
    below
