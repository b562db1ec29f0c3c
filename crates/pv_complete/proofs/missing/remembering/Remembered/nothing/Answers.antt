use Rattle.pv_complete.proofs.missing.remembering.Remembered.nothing.Goals as goal

pub returns : goal.returns
returns c = λ g. record { columns = tt; weights = c.none.ensures g }
