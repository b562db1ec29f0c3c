use Rattle.pv_productive.proofs.SizeLaws.{size_is_weight}
use Rattle.pv_productive.proofs.laws.size_law.Goals as goal

pub returns : goal.returns
returns c = size_is_weight
