use Rattle.std.proofs.Common.{◌∙◌}
use Rattle.pv_dtd.specs.PlainForms.{plain_dtd}
use Rattle.pv_tree.specs.Lists.{lists_of}
use Rattle.pv_tree.specs.PlainDocs.{plain_doc}
use Rattle.pv_table_check.proofs.TableParts.{first_wide}
use Rattle.pv_table_check.proofs.wide.first_wide_table.Goals as goal

pub returns-then-branch-clause-first : goal.returns-then-branch-clause-first
returns-then-branch-clause-first c =
    let w = c.in_ok-is_wide.ensures.wide c.if-branch.true in
    first_wide (plain_dtd c.args.dtd.now) (lists_of (plain_doc c.args.doc.now)) c.args.tables.now
    c.loop-table.table-index c.table-item.result c.table-item.is c.loop-table-test.true
    c.loop-table.invariant w.0 w.1 w.2 w.3
    c.in_ok-new.field-0 (c.in_ok-new.ensures ∙ c.places.ensures)
