use Rattle.pv_productive.proofs.SizeLaws.{productive_derives}
use Rattle.pv_productive.proofs.laws.productive_law.Goals as goal

pub returns : goal.returns
returns c = productive_derives
