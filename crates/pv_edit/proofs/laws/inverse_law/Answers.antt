use Rattle.pv_edit.proofs.RemarkedReasons.{made-leads}
use Rattle.pv_edit.proofs.laws.inverse_law.Goals as goal

pub returns : goal.returns
returns g c = made-leads
