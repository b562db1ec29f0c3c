use Rattle.pv_edit.proofs.InverseLeads.{leads}
use Rattle.pv_edit.proofs.laws.leads_back_law.Goals as goal

pub returns : goal.returns
returns g c = leads
