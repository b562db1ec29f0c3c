use Rattle.std.proofs.Common.{get_or, ℕ, ◌<◌}
use Rattle.pv_dtd.specs.PlainForms.{plain_dtd}
use Rattle.pv_tree.specs.Lists.{lists_of}
use Rattle.pv_tree.specs.PlainDocs.{plain_doc}
use Rattle.pv_tables.specs.declared.tables.Table.{Table}
use Rattle.pv_table_check.specs.ClosedTables.{IsClosedTable}
use Rattle.pv_table_check.proofs.tables.tables_closed.Given as goal

abbrev pub invariant-loop-table : goal.invariant-loop-table
invariant-loop-table l = (k : ℕ) (d : Table) → k < l.table-index → IsClosedTable (plain_dtd l.dtd) l.root (lists_of (plain_doc l.doc)) (get_or l.tables k d)
