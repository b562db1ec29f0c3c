use Rattle.pv_complete.proofs.missing.known.KnownWeights.find.Goals as goal

pub returns : goal.returns
returns c = λ g all. (c.in_ok-entry.ensures g all).weighs
