use Rattle.pv_columns.proofs.TakenTokens.{takes_reaches_one}
use Rattle.pv_columns.proofs.laws.takes_law.Goals as goal

pub returns : goal.returns
returns c = takes_reaches_one
