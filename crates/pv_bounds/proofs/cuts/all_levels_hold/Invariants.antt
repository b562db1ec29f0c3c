use Rattle.std.proofs.Common.{get_or, ℕ, ◌+◌, ◌<◌, ◌≤◌}
use Rattle.pv_bounds.specs.Fronts.{front_list, least_to}
use Rattle.pv_bounds.specs.Windows.{TellsReach}
use Rattle.pv_bounds.specs.declared.fronts.Reach.{Reach}
use Rattle.pv_bounds.proofs.cuts.all_levels_hold.Given as goal

abbrev pub invariant-loop-index : goal.invariant-loop-index
invariant-loop-index l = (m : ℕ) (d : Reach) → m < l.index → (k : ℕ) (r : Reach) →
    k ≤ (get_or (front_list l.firsts) m d).end → TellsReach l.levels k r →
    least_to r.end (front_list l.ones.front) ≤ (get_or (front_list l.firsts) m d).cost + r.cost
