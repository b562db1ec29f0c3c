use Rattle.std.proofs.Common.{Some, slice_get, ℕ, ◌<◌, ◌≡◌}
use Rattle.pv_span.specs.Lines.{IsBlankLine}
use Rattle.pv_span.specs.declared.lines.Line.{Line}
use Rattle.pv_span.proofs.lines.forget_lines.Given as goal

abbrev pub invariant-loop-number : goal.invariant-loop-number
invariant-loop-number l = (k : ℕ) (x : Line) → slice_get l.lines k ≡ Some x → k < l.number → IsBlankLine x
