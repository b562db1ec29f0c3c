use Rattle.std.proofs.Common.{get_or, ℕ, ◌<◌}
use Rattle.pv_bounds.specs.Fronts.{front_list}
use Rattle.pv_bounds.specs.Windows.{AllFalling, KeepsTold, TellsReach}
use Rattle.pv_bounds.specs.declared.fronts.Reach.{Reach}
use Rattle.pv_bounds.proofs.windows.tell_all.Given as goal

abbrev pub invariant-loop-index : goal.invariant-loop-index
invariant-loop-index l = record {
  falling : AllFalling l.levels.items;
  told : (m : ℕ) (d : Reach) → m < l.index →
      TellsReach l.levels.items l.place (get_or (front_list l.front) m d);
  kept : KeepsTold l.fn.levels.items l.levels.items;
}
