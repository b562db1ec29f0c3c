use Rattle.std.proofs.Common.{ℕ, ◌<◌}
use Rattle.pv_layout.specs.FormForms.{plain_all}
use Rattle.pv_layout.specs.Forms.{form_at}
use Rattle.pv_bounds.specs.Fronts.{empty_cost}
use Rattle.pv_bounds.specs.HoldingForms.{EmptyHolds}
use Rattle.pv_bounds.proofs.empties.empties_hold.Given as goal

abbrev pub invariant-loop-number : goal.invariant-loop-number
invariant-loop-number l = (c : ℕ) → c < l.number →
    EmptyHolds (empty_cost l.fronts.empty.items) c (form_at (plain_all l.forms) c)
