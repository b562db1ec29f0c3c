use Rattle.std.proofs.Common.{map, ℕ, ◌<◌}
use Rattle.pv_model.specs.PlainForms.{plain_token}
use Rattle.pv_layout.specs.FormForms.{plain_all}
use Rattle.pv_layout.specs.Forms.{form_at}
use Rattle.pv_bounds.specs.Fronts.{cost_from, empty_cost}
use Rattle.pv_bounds.specs.HoldingForms.{FormCutsHold}
use Rattle.pv_bounds.proofs.closing.cuts_hold.Given as goal

abbrev pub invariant-loop-number : goal.invariant-loop-number
invariant-loop-number l = (c i : ℕ) → c < l.number → i < l.claim.tokens →
    FormCutsHold (map plain_token l.claim.word.now) (empty_cost l.claim.fronts.now.empty.items)
    (cost_from l.claim.fronts.now) c i (form_at (plain_all l.forms) c)
