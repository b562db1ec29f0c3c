use Rattle.std.proofs.Common.{◌≡◌, ◌+◌, ℕ, drop, length}
use Rattle.pv_verdicts.proofs.differences.common_back.Given as goal

abbrev pub invariant-loop-back : goal.invariant-loop-back
invariant-loop-back l =
    (i j : ℕ) → i + l.back ≡ length l.before → j + l.back ≡ length l.after →
    drop i l.before ≡ drop j l.after
