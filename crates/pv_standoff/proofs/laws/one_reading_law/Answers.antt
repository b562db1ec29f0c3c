use Rattle.pv_standoff.proofs.ReadingLemmas.{one_reading}
use Rattle.pv_standoff.proofs.laws.one_reading_law.Goals as goal

pub returns : goal.returns
returns c = one_reading
