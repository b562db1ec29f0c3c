use Rattle.pv_standoff.proofs.SomeMeaning.{some_reading}
use Rattle.pv_standoff.proofs.laws.some_reading_law.Goals as goal

pub returns : goal.returns
returns c = some_reading
