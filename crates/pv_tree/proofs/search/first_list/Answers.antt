use Rattle.std.proofs.Common.{◌≡◌, ◌∷◌, ap, map, true, false}
use Rattle.pv_tree.specs.Lists.{lists_of}
use Rattle.pv_tree.specs.MarkedLists.{list_alone}
use Rattle.pv_tree.specs.PlainDocs.{plain_doc}
use Rattle.pv_tree.specs.Search.{Tells}
use Rattle.pv_tree.specs.ListWalks.{lists_left, path_come_to}
use Rattle.pv_tree.specs.Walks.{list_given}
use Rattle.pv_tree.proofs.ListSearches.{passed_more, stopped_at}
use Rattle.pv_tree.proofs.search.first_list.Goals as goal

pub returns-then-not-branch : goal.returns-then-not-branch
returns-then-not-branch g c = λ root next.
    let P = g.T.ListTest.passes c.args.test.now in
    let A = g.T.ListTest.awaits c.args.test.now c.loop-lists.state in
    let B = g.T.ListTest.awaits c.args.test.now c.passes_list.new.state in
    let list = list_given (path_come_to c.next.new.self) c.in-Some.list in
    let left : map list_alone (lists_left c.loop-lists.lists) ≡ list ∷ map list_alone (lists_left c.next.new.self) = ap (map list_alone) (rw c.in-Some.is at c.in_ok-list.ensures.given) in
    let tells : Tells P A B list false = rw c.if-not-branch.true at (c.in_ok-passes_list.ensures (path_come_to c.next.new.self)) in
    rw c.in_ok-path.ensures (stopped_at P A B root (lists_of (plain_doc c.args.doc.now)) (map list_alone (lists_left c.next.new.self)) list tells (rw left at (c.loop-lists.invariant root next)))

pub loop-lists-preserved : goal.loop-lists-preserved
loop-lists-preserved g c = λ root next.
    let P = g.T.ListTest.passes c.args.test.now in
    let A = g.T.ListTest.awaits c.args.test.now c.loop-lists.state in
    let B = g.T.ListTest.awaits c.args.test.now c.passes_list.new.state in
    let list = list_given (path_come_to c.next.new.self) c.in-Some.list in
    let left : map list_alone (lists_left c.loop-lists.lists) ≡ list ∷ map list_alone (lists_left c.next.new.self) = ap (map list_alone) (rw c.in-Some.is at c.in_ok-list.ensures.given) in
    let tells : Tells P A B list true = rw c.if-not-branch.false at (c.in_ok-passes_list.ensures (path_come_to c.next.new.self)) in
    passed_more P A B root (lists_of (plain_doc c.args.doc.now)) (map list_alone (lists_left c.next.new.self)) list tells (rw left at (c.loop-lists.invariant root next))
