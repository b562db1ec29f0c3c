use Rattle.pv_check.proofs.known.KnownVerdicts.forget_if_full.Goals as goal

pub returns : goal.returns
returns c = λ s g all. c.forget.ensures s g
