use Rattle.pv_rules.proofs.Facts.{parts_by_number}
use Rattle.pv_rules.proofs.laws.parts_law.Goals as goal

pub returns : goal.returns
returns c = parts_by_number
