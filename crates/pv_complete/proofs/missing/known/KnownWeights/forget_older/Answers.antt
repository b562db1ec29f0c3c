use Rattle.pv_complete.proofs.KeptWeights.{right_younger}
use Rattle.pv_complete.proofs.missing.known.KnownWeights.forget_older.Goals as goal

pub returns : goal.returns
returns c = λ g all. right_younger g _ _ _ c.in-Ok.ensures.tail all

pub returns-in_default : goal.returns-in_default
returns-in_default c = λ g all. c.forget.ensures g
