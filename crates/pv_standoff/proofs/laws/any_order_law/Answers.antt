use Rattle.pv_standoff.proofs.OneMeaning.{same_for_any_order}
use Rattle.pv_standoff.proofs.laws.any_order_law.Goals as goal

pub returns : goal.returns
returns c = same_for_any_order
