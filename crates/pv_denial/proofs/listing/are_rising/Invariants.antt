use Rattle.pv_denial.proofs.RisingValues.{RiseTo}
use Rattle.pv_denial.proofs.listing.are_rising.Given as goal

abbrev pub invariant-loop-place : goal.invariant-loop-place
invariant-loop-place l = RiseTo l.values l.tokens l.place l.last
