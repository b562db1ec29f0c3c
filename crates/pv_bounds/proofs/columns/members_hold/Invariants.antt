use Rattle.std.proofs.Common.{get_or, map, ℕ, ◌<◌}
use Rattle.pv_model.specs.PlainForms.{plain_token}
use Rattle.pv_bounds.specs.Fronts.{cost_from, empty_cost}
use Rattle.pv_bounds.specs.HoldingForms.{CostsNoMore}
use Rattle.pv_bounds.proofs.columns.members_hold.Given as goal

abbrev pub invariant-loop-index : goal.invariant-loop-index
invariant-loop-index l = (m : ℕ) → m < l.index →
    CostsNoMore (map plain_token l.claim.word.now) (empty_cost l.claim.fronts.now.empty.items)
    (cost_from l.claim.fronts.now) l.column l.place 0 (get_or l.members m 0)
