use Rattle.std.proofs.Common.{ℕ, ◌<◌}
use Rattle.pv_rules.specs.Sites.{content_site, name_site}
use Rattle.pv_table_check.specs.ClosedForms.{WeighsAsOne}
use Rattle.pv_table_check.specs.Tested.{IsClosedIn}
use Rattle.pv_table_check.proofs.closing.names_closed.Given as goal

abbrev pub invariant-loop-name : goal.invariant-loop-name
invariant-loop-name l = (x : ℕ) → x < l.name → WeighsAsOne l.tested.entries.now (name_site x) (content_site x) 1 × IsClosedIn l.tested (content_site x)
