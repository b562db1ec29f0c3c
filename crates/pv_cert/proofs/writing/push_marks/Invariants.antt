use Rattle.std.proofs.Common.{◌≡◌, ◌++◌, drop, map}
use Rattle.pv_cert.specs.Lines.{mark_line}
use Rattle.pv_cert.specs.Packs.{lines_text}
use Rattle.pv_cert.proofs.writing.push_marks.Given as goal

-- what is written so far, and what is left to write, is all
abbrev pub invariant-loop-mark : goal.invariant-loop-mark
invariant-loop-mark l = l.text.items ++ lines_text (map mark_line (drop l.mark-index l.marks)) ≡ l.fn.text.items ++ lines_text (map mark_line l.marks)
