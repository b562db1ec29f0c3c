use Rattle.std.proofs.Common.{ℕ, ◌<◌, ◌≤◌}
use Rattle.pv_rules.specs.PlainForms.{plain_site}
use Rattle.pv_denial.specs.RowForms.{past_at}
use Rattle.pv_denial.proofs.forms.one_holds.Given as goal

abbrev pub invariant-loop-place : goal.invariant-loop-place
invariant-loop-place l = (i : ℕ) → i < l.place →
    past_at l.barrier (plain_site l.right) i ≤ past_at l.barrier (plain_site l.left) i
