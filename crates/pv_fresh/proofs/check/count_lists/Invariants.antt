use Rattle.std.proofs.Common.{◌+◌, ◌≡◌}
use Rattle.pv_fresh.proofs.check.count_lists.Given as goal

abbrev pub invariant-loop-list : goal.invariant-loop-list
invariant-loop-list g l = l.steps ≡ l.fn.steps + l._list
