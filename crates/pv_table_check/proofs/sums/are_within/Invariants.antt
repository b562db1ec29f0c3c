use Rattle.std.proofs.Common.{ℕ, get_or, ◌+◌, ◌<◌, ◌≤◌}
use Rattle.pv_table_check.proofs.sums.are_within.Given as goal

abbrev pub invariant-loop-place : goal.invariant-loop-place
invariant-loop-place l = (k : ℕ) → k < l.place → get_or l.lefts k 0 ≤ l.value + get_or l.seconds k 0
