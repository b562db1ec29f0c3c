use Rattle.pv_missing.proofs.Verdict.{own_valid_live}
use Rattle.pv_missing.proofs.laws.lists.own_valid_law.Goals as goal

pub returns : goal.returns
returns g c = own_valid_live _
