use Rattle.std.proofs.Common.{ℕ, ◌<◌, ◌≤◌}
use Rattle.pv_rules.specs.Sites.{content_site, part_site}
use Rattle.pv_denial.specs.RowForms.{HoldsTwoSides}
use Rattle.pv_denial.proofs.rules.parts_hold.Given as goal

abbrev pub invariant-loop-number : goal.invariant-loop-number
invariant-loop-number l = (q : ℕ) → l.first ≤ q → q < l.number →
    HoldsTwoSides l.barrier (content_site l.id.0) (part_site q) (content_site l.id.0) l.tokens
