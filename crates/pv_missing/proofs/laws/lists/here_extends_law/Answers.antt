use Rattle.pv_missing.proofs.OneList.{here_extends}
use Rattle.pv_missing.proofs.laws.lists.here_extends_law.Goals as goal

pub returns : goal.returns
returns c = here_extends
