use Rattle.pv_missing.proofs.Verdict.{one_first}
use Rattle.pv_missing.proofs.laws.lists.one_first_law.Goals as goal

pub returns : goal.returns
returns g c = one_first _
