use Rattle.std.proofs.Common.{length, map, ℕ, ◌<◌}
use Rattle.pv_model.specs.PlainForms.{plain_token}
use Rattle.pv_layout.specs.FormForms.{plain_all}
use Rattle.pv_layout.specs.Forms.{form_at}
use Rattle.pv_bounds.specs.Fronts.{cost_from, empty_cost}
use Rattle.pv_bounds.specs.HoldingForms.{ColumnHolds}
use Rattle.pv_bounds.proofs.columns.places_hold.Given as goal

abbrev pub invariant-loop-place : goal.invariant-loop-place
invariant-loop-place l = (i c : ℕ) → i < l.place → c < length l.forms →
    ColumnHolds (map plain_token l.claim.word.now) (empty_cost l.claim.fronts.now.empty.items)
    (cost_from l.claim.fronts.now) c i (form_at (plain_all l.forms) c)
