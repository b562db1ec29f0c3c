use Rattle.std.proofs.Common.{length, map, ◌++◌, ◌≡◌}
use Rattle.pv_tree.specs.PlainDocs.{plain_doc}
use Rattle.pv_tree.specs.ListWalks.{lists_left}
use Rattle.pv_cache.specs.Rows.{rows_of}
use Rattle.pv_cache.proofs.MarkedWalks.{row_by}
use Rattle.pv_cache.proofs.rows.rows_of.Given as goal

abbrev pub invariant-loop-lists : goal.invariant-loop-lists
invariant-loop-lists l = l.rows.items ++ map row_by (lists_left l.lists) ≡ rows_of (plain_doc l.doc)

abbrev pub decreases-loop-lists : goal.decreases-loop-lists
decreases-loop-lists l = length (lists_left l.lists)
