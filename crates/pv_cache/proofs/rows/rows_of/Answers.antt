use Rattle.pv_tree.specs.PlainDocs.{plain_doc}
use Rattle.pv_tree.specs.ListWalks.{lists_left, path_come_to}
use Rattle.pv_tree.specs.Walks.{marked_list}
use Rattle.pv_cache.specs.Rows.{rows_of}
use Rattle.pv_cache.proofs.MarkedWalks.{row_by, rows_by, told_next}
use Rattle.pv_cache.proofs.rows.rows_of.Goals as goal

pub loop-lists-init : goal.loop-lists-init
loop-lists-init c = rw (c.new-rows.ensures.items, c.of-lists.ensures.marked) (rows_by (plain_doc c.args.doc.now))

pub loop-lists-preserved : goal.loop-lists-preserved
loop-lists-preserved c =
    told_next row_by (lists_left c.loop-lists.lists) (lists_left c.next.new.self) (marked_list (path_come_to c.next.new.self) c.in-Some.list)
    c.loop-lists.rows.items c.push.new.self.items (rows_of (plain_doc c.args.doc.now))
    (rw c.in-Some.is at c.in_ok-list.ensures.given) (rw c.in_ok-path.ensures at c.in_ok-push.ensures.items) c.loop-lists.invariant
