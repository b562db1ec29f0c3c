use Rattle.std.proofs.Common.{ℕ, get_or, ◌<◌}
use Rattle.pv_compare.proofs.marks.ascend.Given as goal

abbrev pub invariant-loop-i : goal.invariant-loop-i
invariant-loop-i l = (a b : ℕ) → a < b → b < l.i → get_or l.marks a 0 < get_or l.marks b 0
