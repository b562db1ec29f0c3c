use Rattle.std.proofs.Common.{◌≡◌, ◌++◌, drop}
use Rattle.pv_cert.specs.Packs.{lines_text, table_lines}
use Rattle.pv_cert.proofs.writing.push_tables.Given as goal

-- what is written so far, and what is left to write, is all
abbrev pub invariant-loop-table : goal.invariant-loop-table
invariant-loop-table l = l.text.items ++ lines_text (table_lines (drop l.table-index l.tables)) ≡ l.fn.text.items ++ lines_text (table_lines l.tables)
