use Rattle.std.proofs.Common.{get_or, ℕ, ◌+◌, ◌<◌, ◌≤◌}
use Rattle.pv_bounds.specs.Fronts.{front_list, least_to}
use Rattle.pv_bounds.specs.Windows.{TellsEnd}
use Rattle.pv_bounds.specs.declared.windows.Level.{Level}
use Rattle.pv_bounds.proofs.cuts.levels_hold.Given as goal

abbrev pub invariant-loop-index : goal.invariant-loop-index
invariant-loop-index l = (m : ℕ) (x : Level) → m < l.index → (k e : ℕ) → k ≤ l.first.end →
    TellsEnd (get_or l.levels m x).records.items k e →
    least_to e (front_list l.ones.front) ≤ l.first.cost + (get_or l.levels m x).cost
