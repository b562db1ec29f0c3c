use Rattle.std.proofs.Common.{Some, slice_get, ℕ, ◌<◌, ◌≡◌, ◌≤◌}
use Rattle.pv_rules.specs.Sites.{content_site}
use Rattle.pv_denial.specs.RowForms.{value_then, past_at}
use Rattle.pv_denial.proofs.rules.names_hold.Given as goal

abbrev pub invariant-loop-place : goal.invariant-loop-place
invariant-loop-place l = (i m : ℕ) → i < l.place → slice_get l.most i ≡ Some m →
    value_then m (past_at l.barrier (content_site l.id.0)) ≤ past_at l.barrier (content_site l.id.0) i
