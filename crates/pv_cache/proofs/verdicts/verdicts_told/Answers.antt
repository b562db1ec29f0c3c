use Rattle.pv_tree.specs.PlainDocs.{plain_doc}
use Rattle.pv_tree.specs.ListWalks.{lists_left, path_come_to}
use Rattle.pv_tree.specs.Walks.{marked_list}
use Rattle.pv_cache.specs.WellMarked.{verdicts_told}
use Rattle.pv_cache.proofs.MarkedWalks.{told_next, verdict_by, verdicts_by}
use Rattle.pv_cache.proofs.verdicts.verdicts_told.Goals as goal

pub loop-lists-init : goal.loop-lists-init
loop-lists-init c = rw (c.new-verdicts.ensures.items, c.of-lists.ensures.marked) (verdicts_by (plain_doc c.args.doc.now))

pub loop-lists-preserved : goal.loop-lists-preserved
loop-lists-preserved c =
    told_next verdict_by (lists_left c.loop-lists.lists) (lists_left c.next.new.self) (marked_list (path_come_to c.next.new.self) c.in-Some.list)
    c.loop-lists.verdicts.items c.push.new.self.items (verdicts_told (plain_doc c.args.doc.now))
    (rw c.in-Some.is at c.in_ok-list.ensures.given) c.in_ok-push.ensures.items c.loop-lists.invariant
