use Rattle.std.proofs.Common.{List, ℕ, length, map}
use Rattle.pv_tree.specs.Lists.{lists_of}
use Rattle.pv_tree.specs.MarkedLists.{list_alone}
use Rattle.pv_tree.specs.PlainDocs.{plain_doc}
use Rattle.pv_tree.specs.ListWalks.{lists_left}
use Rattle.pv_tree.proofs.ListSearches.{HasPassed}
use Rattle.pv_tree.proofs.search.first_list.Given as goal

-- the lists so far have passed
abbrev pub invariant-loop-lists : goal.invariant-loop-lists
invariant-loop-lists g l = (root : List ℕ) → g.T.ListTest.awaits l.test l.fn.state root (lists_of (plain_doc l.doc)) →
    HasPassed (g.T.ListTest.passes l.test root) (g.T.ListTest.awaits l.test l.state root) (lists_of (plain_doc l.doc)) (map list_alone (lists_left l.lists))

abbrev pub decreases-loop-lists : goal.decreases-loop-lists
decreases-loop-lists g l = length (lists_left l.lists)
