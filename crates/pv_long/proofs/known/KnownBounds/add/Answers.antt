use Rattle.pv_long.proofs.KnownLists.{right_pushed}
use Rattle.pv_long.proofs.known.KnownBounds.add.Goals as goal

pub returns : goal.returns
returns c = λ g all one. right_pushed g _ _ _ _ c.push.ensures.items all one
