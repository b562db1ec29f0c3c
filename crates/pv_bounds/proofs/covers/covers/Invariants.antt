use Rattle.std.proofs.Common.{get_or, ℕ, ◌+◌, ◌<◌, ◌≤◌}
use Rattle.pv_bounds.specs.Fronts.{front_list, least_to}
use Rattle.pv_bounds.specs.declared.fronts.Reach.{Reach}
use Rattle.pv_bounds.proofs.covers.covers.Given as goal

abbrev pub invariant-loop-index : goal.invariant-loop-index
invariant-loop-index l = (m : ℕ) (d : Reach) → m < l.index →
    least_to (get_or (front_list l.others) m d).end (front_list l.ones) ≤
    l.extra + (get_or (front_list l.others) m d).cost
