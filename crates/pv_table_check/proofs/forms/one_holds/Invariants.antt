use Rattle.std.proofs.Common.{ℕ, get_or, ◌+◌, ◌<◌, ◌≤◌}
use Rattle.pv_rules.specs.PlainForms.{plain_site}
use Rattle.pv_rules.specs.Rules.{over}
use Rattle.pv_tables.specs.Values.{listed_value}
use Rattle.pv_tables.specs.declared.tables.Entry.{Entry}
use Rattle.pv_table_check.proofs.forms.one_holds.Given as goal

abbrev pub invariant-loop-place : goal.invariant-loop-place
invariant-loop-place l = (k : ℕ) (d : Entry) → k < l.place →
    listed_value l.lefts (over (plain_site l.left) (get_or l.found k d).from (get_or l.found k d).to) ≤ l.cost + (get_or l.found k d).value
