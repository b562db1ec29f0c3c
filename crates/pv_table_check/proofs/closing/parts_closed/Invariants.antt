use Rattle.std.proofs.Common.{ℕ, ◌<◌}
use Rattle.pv_rules.specs.Sites.{part_site, rest_site}
use Rattle.pv_table_check.specs.Tested.{IsClosedIn}
use Rattle.pv_table_check.proofs.closing.parts_closed.Given as goal

abbrev pub invariant-loop-number : goal.invariant-loop-number
invariant-loop-number l = (q : ℕ) → q < l.number → IsClosedIn l.tested (part_site q) × IsClosedIn l.tested (rest_site q)
