use Rattle.std.proofs.Common.{slice_get, ℕ, ◌<◌, ◌≡◌}
use Rattle.pv_check.proofs.known.are_same.Given as goal

abbrev pub invariant-loop-number : goal.invariant-loop-number
invariant-loop-number l = (k : ℕ) → k < l.number → slice_get l.word k ≡ slice_get l.other k
