use Rattle.std.proofs.Common.{length, ℕ}
use Rattle.pv_productive.specs.PlainForms.{dtd_of}
use Rattle.pv_tree.specs.Lists.{lists_of}
use Rattle.pv_tree.specs.PlainDocs.{plain_doc}
use Rattle.pv_tree.specs.ListWalks.{lists_left}
use Rattle.pv_fresh.proofs.Lists.{left_by}
use Rattle.pv_long.specs.AddedBounds.{AreBounded}
use Rattle.pv_long.specs.KnownBounds.{AreWordBounds}
use Rattle.pv_long.proofs.bounding.bound_doc.Given as goal

-- what is added for the lists that are left goes on with what was added so far
abbrev pub invariant-loop-lists : goal.invariant-loop-lists
invariant-loop-lists g l = AreWordBounds (dtd_of l.known.layout.now.grammar.now) l.bounds ×
    ((last : ℕ) → AreBounded (dtd_of l.known.layout.now.grammar.now) l.root (left_by l.lists)
    l.found.least last →
    AreBounded (dtd_of l.known.layout.now.grammar.now) l.root (lists_of (plain_doc l.doc)) 0 last)

abbrev pub decreases-loop-lists : goal.decreases-loop-lists
decreases-loop-lists g l = length (lists_left l.lists)
