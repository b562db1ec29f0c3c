use Rattle.std.proofs.Common.{get_or, ℕ, ◌+◌, ◌<◌}
use Rattle.pv_bounds.proofs.front.Front.least_shared.Given as goal

abbrev pub invariant-loop-number : goal.invariant-loop-number
invariant-loop-number l = (m : ℕ) → m < l.number →
    get_or l.self.ends.now (l.self.from + m) 0 < l.place
