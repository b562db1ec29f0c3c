use Rattle.std.proofs.Common.{◌≡◌, ◌++◌, drop}
use Rattle.pv_script.specs.Replies.{row_lines}
use Rattle.pv_script.proofs.replies.push_rows.Given as goal

-- what is written so far, and what is left to write, is all
abbrev pub invariant-loop-row : goal.invariant-loop-row
invariant-loop-row l = l.text.items ++ row_lines (drop l.row-index l.rows) ≡ l.fn.text.items ++ row_lines l.rows
