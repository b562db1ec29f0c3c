use Rattle.pv_standoff.proofs.SomeMeaning.{some_meaning}
use Rattle.pv_standoff.proofs.laws.some_meaning_law.Goals as goal

pub returns : goal.returns
returns c = some_meaning
