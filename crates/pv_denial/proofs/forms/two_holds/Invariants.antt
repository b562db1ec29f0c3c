use Rattle.std.proofs.Common.{ℕ, ◌<◌, ◌≤◌}
use Rattle.pv_rules.specs.PlainForms.{plain_site}
use Rattle.pv_denial.specs.RowForms.{value_then, past_at}
use Rattle.pv_denial.proofs.forms.two_holds.Given as goal

abbrev pub invariant-loop-place : goal.invariant-loop-place
invariant-loop-place l = (i : ℕ) → i < l.place →
    value_then (past_at l.barrier (plain_site l.first) i) (past_at l.barrier (plain_site l.second)) ≤
    past_at l.barrier (plain_site l.left) i
