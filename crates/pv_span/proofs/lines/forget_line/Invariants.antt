use Rattle.std.proofs.Common.{length, ℕ, ◌<◌, ◌≡◌}
use Rattle.pv_productive.specs.Tables.{no_size, size_at}
use Rattle.pv_span.proofs.lines.forget_line.Given as goal

abbrev pub invariant-loop-place : goal.invariant-loop-place
invariant-loop-place l = (p : ℕ) → p < l.place → p < length l.line.least.items → size_at l.line.least.items p ≡ no_size
