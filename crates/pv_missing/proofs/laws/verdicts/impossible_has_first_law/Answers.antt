use Rattle.pv_missing.proofs.VerdictLists.{impossible_has_first}
use Rattle.pv_missing.proofs.laws.verdicts.impossible_has_first_law.Goals as goal

pub returns : goal.returns
returns g c = impossible_has_first _
