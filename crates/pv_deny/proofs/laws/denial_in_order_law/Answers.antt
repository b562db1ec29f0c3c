use Rattle.pv_deny.proofs.Outcomes.{in_order}
use Rattle.pv_deny.proofs.laws.denial_in_order_law.Goals as goal

pub returns : goal.returns
returns g c = λ d root doc e is. in_order _ d root doc e is
