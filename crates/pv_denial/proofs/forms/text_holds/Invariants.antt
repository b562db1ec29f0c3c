use Rattle.std.proofs.Common.{Some, map, slice_get, suc, ℕ, ◌<◌, ◌≡◌, ◌≤◌}
use Rattle.pv_model.specs.Plain.{text}
use Rattle.pv_model.specs.PlainForms.{plain_token}
use Rattle.pv_rules.specs.PlainForms.{plain_site}
use Rattle.pv_denial.specs.RowForms.{past_at}
use Rattle.pv_denial.proofs.forms.text_holds.Given as goal

abbrev pub invariant-loop-place : goal.invariant-loop-place
invariant-loop-place l = (i : ℕ) → i < l.place → slice_get (map plain_token l.word) i ≡ Some text →
    past_at l.barrier (plain_site l.left) (suc i) ≤ past_at l.barrier (plain_site l.left) i
