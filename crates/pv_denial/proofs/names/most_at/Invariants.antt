use Rattle.pv_denial.proofs.MostOfNames.{IsMostTo}
use Rattle.pv_denial.proofs.names.most_at.Given as goal

abbrev pub invariant-loop-name : goal.invariant-loop-name
invariant-loop-name l = IsMostTo l.barrier l.place l.name l.most
