use Rattle.pv_long.proofs.known.KnownBounds.forget_if_full.Goals as goal

pub returns : goal.returns
returns c = λ g all. c.forget.ensures g
