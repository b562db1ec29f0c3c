use Rattle.pv_standoff.proofs.OneMeaning.{one_meaning}
use Rattle.pv_standoff.proofs.laws.one_meaning_law.Goals as goal

pub returns : goal.returns
returns c = one_meaning
