use Rattle.std.proofs.Common.{Some, map, slice_get, suc, ℕ, ◌<◌, ◌≡◌, ◌≤◌}
use Rattle.pv_model.specs.Plain.{named}
use Rattle.pv_model.specs.PlainForms.{plain_token}
use Rattle.pv_rules.specs.Sites.{name_site}
use Rattle.pv_denial.specs.RowForms.{past_at}
use Rattle.pv_denial.proofs.forms.kept_holds.Given as goal

abbrev pub invariant-loop-place : goal.invariant-loop-place
invariant-loop-place l = (i : ℕ) → i < l.place → slice_get (map plain_token l.word) i ≡ Some (named l.id.0) →
    suc (suc i) ≤ past_at l.barrier (name_site l.id.0) i
