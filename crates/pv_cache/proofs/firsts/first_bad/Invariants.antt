use Rattle.std.proofs.Common.{length, ◌≡◌}
use Rattle.pv_tree.specs.PlainDocs.{plain_doc}
use Rattle.pv_tree.specs.ListWalks.{lists_left}
use Rattle.pv_cache.specs.Firsts.{first_among, first_bad}
use Rattle.pv_cache.proofs.firsts.first_bad.Given as goal

-- those before have none
abbrev pub invariant-loop-lists : goal.invariant-loop-lists
invariant-loop-lists l = first_among (lists_left l.lists) ≡ first_bad (plain_doc l.doc)

abbrev pub decreases-loop-lists : goal.decreases-loop-lists
decreases-loop-lists l = length (lists_left l.lists)
