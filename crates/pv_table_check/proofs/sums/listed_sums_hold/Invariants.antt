use Rattle.std.proofs.Common.{ℕ, get_or, true, ◌<◌, ◌≡◌}
use Rattle.pv_rules.specs.PlainForms.{plain_site}
use Rattle.pv_tables.specs.declared.tables.Entry.{Entry}
use Rattle.pv_table_check.specs.ClosedForms.{WeighsBehind}
use Rattle.pv_table_check.proofs.sums.listed_sums_hold.Given as goal

abbrev pub invariant-loop-one : goal.invariant-loop-one
invariant-loop-one l = (k : ℕ) (d : Entry) → k < l.one-index → (l.pair.outer ≡ true → (get_or l.firsts k d).from < (get_or l.firsts k d).to) →
    WeighsBehind l.lefts l.seconds (plain_site l.pair.left) (get_or l.firsts k d).from (get_or l.firsts k d).to (get_or l.firsts k d).value (plain_site l.pair.second) l.pair.inner
