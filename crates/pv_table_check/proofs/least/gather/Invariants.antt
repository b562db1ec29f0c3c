use Rattle.std.specs.List.{Contains}
use Rattle.pv_tables.specs.declared.tables.Entry.{Entry}
use Rattle.pv_table_check.proofs.least.gather.Given as goal

abbrev pub invariant-loop-cell : goal.invariant-loop-cell
invariant-loop-cell l = (e : Entry) → Contains l.found.items e → Contains l.entries e
