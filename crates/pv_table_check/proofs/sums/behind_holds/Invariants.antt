use Rattle.std.proofs.Common.{ℕ, get_or, true, ◌+◌, ◌<◌, ◌≡◌, ◌≤◌}
use Rattle.pv_rules.specs.PlainForms.{plain_site}
use Rattle.pv_rules.specs.Rules.{over}
use Rattle.pv_tables.specs.Values.{listed_value}
use Rattle.pv_tables.specs.declared.tables.Entry.{Entry}
use Rattle.pv_table_check.proofs.sums.behind_holds.Given as goal

abbrev pub invariant-loop-two : goal.invariant-loop-two
invariant-loop-two l = (k : ℕ) (d : Entry) → k < l.two-index → (l.inner ≡ true → l.one.to < (get_or l.found k d).to) →
    listed_value l.row (over (plain_site l.left) l.one.from (get_or l.found k d).to) ≤ l.one.value + (get_or l.found k d).value
