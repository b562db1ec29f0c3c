use Rattle.pv_tree.specs.PathOrder.{IsPathBefore}
use Rattle.pv_tables.specs.declared.tables.Table.{Table}
use Rattle.pv_table_check.proofs.AscendingLists.{AscendUpTo}
use Rattle.pv_table_check.proofs.paths.paths_ascend.Given as goal

abbrev pub invariant-loop-place : goal.invariant-loop-place
invariant-loop-place l = AscendUpTo (λ (t : Table) (u : Table). IsPathBefore t.path u.path) l.tables l.place
