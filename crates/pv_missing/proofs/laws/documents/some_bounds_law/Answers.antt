use Rattle.pv_missing.proofs.SomeBounds.{some_bounds}
use Rattle.pv_missing.proofs.laws.documents.some_bounds_law.Goals as goal

pub returns : goal.returns
returns g c = some_bounds _
