use Rattle.std.proofs.Common.{Some, slice_get, suc, ℕ, ◌<◌, ◌≡◌, ◌≤◌}
use Rattle.pv_span.specs.DoneSpans.{rows_done}
use Rattle.pv_span.specs.Lines.{IsLine}
use Rattle.pv_span.specs.declared.lines.Line.{Line}
use Rattle.pv_span.proofs.lines.extend_lines.Given as goal

abbrev pub invariant-loop-number : goal.invariant-loop-number
invariant-loop-number l =
    ((k : ℕ) (x : Line) → slice_get l.lines k ≡ Some x → k < l.number → IsLine l.last.tokens (rows_done l.last.done.now) l.last.from (suc l.last.to) x) ×
    ((k : ℕ) (x : Line) → slice_get l.lines k ≡ Some x → l.number ≤ k → IsLine l.last.tokens (rows_done l.last.done.now) l.last.from l.last.to x)
