use Rattle.pv_table_check.proofs.PathSteps.{IsLeft}
use Rattle.pv_table_check.proofs.paths.is_before.Given as goal

abbrev pub invariant-loop-place : goal.invariant-loop-place
invariant-loop-place l = IsLeft l.one l.other l.place
