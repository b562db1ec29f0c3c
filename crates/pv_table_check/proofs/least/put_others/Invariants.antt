use Rattle.pv_table_check.proofs.LeastValues.{AreSoFar}
use Rattle.pv_table_check.proofs.least.put_others.Given as goal

abbrev pub invariant-loop-entry : goal.invariant-loop-entry
invariant-loop-entry l = AreSoFar l.entries l.entry-index l.found.items
