use Rattle.std.proofs.Common.{ℕ, get_or, ◌<◌}
use Rattle.pv_tables.specs.declared.tables.Entry.{Entry}
use Rattle.pv_table_check.specs.Sums.{IsNoLess}
use Rattle.pv_table_check.proofs.sums.laid_sums_hold.Given as goal

abbrev pub invariant-loop-one : goal.invariant-loop-one
invariant-loop-one l = (k : ℕ) (d : Entry) → k < l.one-index → IsNoLess l.entries l.pair (get_or l.firsts k d)
