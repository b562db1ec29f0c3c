use Rattle.pv_check.proofs.KnownWords.{known_pushed}
use Rattle.pv_check.proofs.known.KnownVerdicts.add.Goals as goal

pub returns : goal.returns
returns c = λ s g all one. known_pushed s g _ _ _ _ c.push.ensures.items all one
