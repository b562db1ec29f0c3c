use Rattle.std.proofs.Common.{map, ℕ, ◌<◌, ◌≤◌}
use Rattle.pv_model.specs.PlainForms.{plain_token}
use Rattle.pv_bounds.specs.Fronts.{cost_from, empty_cost}
use Rattle.pv_bounds.specs.HoldingForms.{CutsHold}
use Rattle.pv_bounds.specs.Windows.{AllFalling, IsWindow}
use Rattle.pv_bounds.proofs.cuts.cuts_hold.Given as goal

abbrev pub invariant-loop-place : goal.invariant-loop-place
invariant-loop-place l = record {
  falling : AllFalling l.levels.items;
  window : IsWindow l.claim.fronts.now l.pair.second l.told l.claim.tokens
      l.levels.items;
  held : (i : ℕ) → l.place ≤ i → i < l.claim.tokens →
      CutsHold (map plain_token l.claim.word.now) (empty_cost l.claim.fronts.now.empty.items)
      (cost_from l.claim.fronts.now) l.pair.column i l.pair.first l.pair.second;
}
