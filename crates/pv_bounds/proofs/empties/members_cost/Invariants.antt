use Rattle.std.proofs.Common.{get_or, ℕ, ◌<◌, ◌≤◌}
use Rattle.pv_bounds.specs.Fronts.{empty_cost}
use Rattle.pv_bounds.proofs.empties.members_cost.Given as goal

abbrev pub invariant-loop-index : goal.invariant-loop-index
invariant-loop-index l = (m : ℕ) → m < l.index →
    l.cost ≤ empty_cost l.fronts.empty.items (get_or l.members m 0)
