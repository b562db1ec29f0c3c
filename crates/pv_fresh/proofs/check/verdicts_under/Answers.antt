use Rattle.pv_fresh.proofs.check.verdicts_under.Goals as goal

pub returns : goal.returns
returns c = rw c.new-judge.ensures at c.verdicts_by.ensures
