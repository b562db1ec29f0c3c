use Rattle.pv_rules.proofs.Spans.{small_rules}
use Rattle.pv_rules.proofs.laws.small_law.Goals as goal

pub returns : goal.returns
returns c = small_rules
