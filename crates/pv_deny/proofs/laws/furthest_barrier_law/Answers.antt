use Rattle.pv_deny.proofs.FurthestPlaces.{furthest_barrier}
use Rattle.pv_deny.proofs.laws.furthest_barrier_law.Goals as goal

pub returns : goal.returns
returns c = λ g w rows proper known productive are. furthest_barrier c.spans_within_law.ensures g w rows proper known productive are
