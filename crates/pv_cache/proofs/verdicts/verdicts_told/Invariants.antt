use Rattle.std.proofs.Common.{length, map, ◌++◌, ◌≡◌}
use Rattle.pv_tree.specs.PlainDocs.{plain_doc}
use Rattle.pv_tree.specs.ListWalks.{lists_left}
use Rattle.pv_cache.specs.WellMarked.{verdicts_told}
use Rattle.pv_cache.proofs.MarkedWalks.{verdict_by}
use Rattle.pv_cache.proofs.verdicts.verdicts_told.Given as goal

abbrev pub invariant-loop-lists : goal.invariant-loop-lists
invariant-loop-lists l = l.verdicts.items ++ map verdict_by (lists_left l.lists) ≡ verdicts_told (plain_doc l.doc)

abbrev pub decreases-loop-lists : goal.decreases-loop-lists
decreases-loop-lists l = length (lists_left l.lists)
