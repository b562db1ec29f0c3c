use Rattle.std.proofs.Common.{◌≡◌, ◌++◌, drop, map}
use Rattle.pv_cert.specs.Lines.{entry_line}
use Rattle.pv_cert.specs.Packs.{lines_text}
use Rattle.pv_cert.proofs.writing.push_entries.Given as goal

-- what is written so far, and what is left to write, is all
abbrev pub invariant-loop-entry : goal.invariant-loop-entry
invariant-loop-entry l = l.text.items ++ lines_text (map entry_line (drop l.entry-index l.entries)) ≡ l.fn.text.items ++ lines_text (map entry_line l.entries)
