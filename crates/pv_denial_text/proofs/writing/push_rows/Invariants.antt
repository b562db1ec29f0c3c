use Rattle.std.proofs.Common.{Some, [], drop, map, slice_get, ℕ, ◌++◌, ◌<◌, ◌≡◌, ◌≢◌}
use Rattle.pv_denial.specs.declared.denials.Row.{Row}
use Rattle.pv_denial_text.specs.Lines.{IsRowInRange, row_line}
use Rattle.pv_denial_text.specs.Texts.{lines_text}
use Rattle.pv_denial_text.proofs.writing.push_rows.Given as goal

-- what is written so far, and what is left to write, is all; and the rows written are in range
abbrev pub invariant-loop-row : goal.invariant-loop-row
invariant-loop-row l = record {
  written : l.text.items ++ lines_text (map row_line (drop l.row-index l.rows)) ≡ l.fn.text.items ++ lines_text (map row_line l.rows);
  in_range : (k : ℕ) (r : Row) → k < l.row-index → slice_get l.rows k ≡ Some r → r.values ≢ [] → IsRowInRange r;
}
