use Rattle.std.proofs.Common.{◌≡◌, ◌++◌, drop}
use Rattle.pv_script.specs.Replies.{edit_lines}
use Rattle.pv_script.proofs.replies.push_edits.Given as goal

-- what is written so far, and what is left to write, is all
abbrev pub invariant-loop-edit : goal.invariant-loop-edit
invariant-loop-edit l = l.text.items ++ edit_lines (drop l.edit-index l.edits) ≡ l.fn.text.items ++ edit_lines l.edits
