use Rattle.std.proofs.Common.{get_or, map, ℕ, ◌<◌}
use Rattle.pv_model.specs.PlainForms.{plain_token}
use Rattle.pv_dtd.specs.PlainForms.{plain_dtd}
use Rattle.pv_tables.specs.declared.tables.Entry.{Entry}
use Rattle.pv_table_check.specs.ClosedEntries.{IsEntryOver}
use Rattle.pv_table_check.proofs.fitting.are_over.Given as goal

abbrev pub invariant-loop-entry : goal.invariant-loop-entry
invariant-loop-entry l = (k : ℕ) (d : Entry) → k < l.entry-index → IsEntryOver (plain_dtd l.dtd) (map plain_token l.word) (get_or l.entries k d)
