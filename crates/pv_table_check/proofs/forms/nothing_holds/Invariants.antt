use Rattle.std.proofs.Common.{ℕ, ◌<◌, ◌≡◌}
use Rattle.pv_rules.specs.PlainForms.{plain_site}
use Rattle.pv_rules.specs.Rules.{over}
use Rattle.pv_tables.specs.Values.{listed_value}
use Rattle.pv_table_check.proofs.forms.nothing_holds.Given as goal

abbrev pub invariant-loop-place : goal.invariant-loop-place
invariant-loop-place l = (i : ℕ) → i < l.place → listed_value l.found (over (plain_site l.left) i i) ≡ 0
