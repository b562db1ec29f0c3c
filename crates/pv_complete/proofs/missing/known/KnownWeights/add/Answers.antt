use Rattle.pv_complete.proofs.KeptWeights.{right_pushed}
use Rattle.pv_complete.proofs.missing.known.KnownWeights.add.Goals as goal

pub returns : goal.returns
returns c = λ g all one. right_pushed g _ _ _ _ c.push.ensures.items all one
