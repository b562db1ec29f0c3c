use Rattle.pv_tables.specs.Tables.{Precedes}
use Rattle.pv_table_check.proofs.AscendingLists.{AscendUpTo}
use Rattle.pv_table_check.proofs.fitting.ascend.Given as goal

abbrev pub invariant-loop-place : goal.invariant-loop-place
invariant-loop-place l = AscendUpTo Precedes l.entries l.place
