use Rattle.pv_rules.proofs.FormedParts.{parts_formed}
use Rattle.pv_rules.proofs.laws.formed_law.Goals as goal

pub returns : goal.returns
returns c = parts_formed
