use Rattle.pv_complete.proofs.SpelledWrites.{spelled_writes}
use Rattle.pv_complete.proofs.laws.spelled_law.Goals as goal

pub returns : goal.returns
returns c = spelled_writes
