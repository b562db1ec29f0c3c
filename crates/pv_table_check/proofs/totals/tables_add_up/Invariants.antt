use Rattle.pv_dtd.specs.PlainForms.{plain_dtd}
use Rattle.pv_tree.specs.PlainDocs.{plain_doc}
use Rattle.pv_table_check.proofs.RemainingTotals.{IsLeft}
use Rattle.pv_table_check.proofs.totals.tables_add_up.Given as goal

abbrev pub invariant-loop-table : goal.invariant-loop-table
invariant-loop-table l = IsLeft (plain_dtd l.dtd) l.root (plain_doc l.doc) l.tables l.total l.table-index l.left
