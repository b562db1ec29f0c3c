use Rattle.std.proofs.Common.{◌≤◌}
use Rattle.pv_span.proofs.repeats.longest.Given as goal

abbrev pub invariant-loop-place : goal.invariant-loop-place
invariant-loop-place l = l.first ≤ l.best
