-- Sums of a first site and a second one after it, by the entries of the first.
use Rattle.std.specs.Prelude.{List, get_or, length, true, ℕ, ◌<◌, ◌≡◌}
use Rattle.pv_rules.specs.PlainForms.{plain_site}
use Rattle.pv_tables.specs.declared.tables.Entry.{Entry}
use Rattle.pv_table_check.specs.ClosedForms.{WeighsBehind}
use Rattle.pv_table_check.specs.declared.sums.Pair.{Pair}

-- the left site weighs no more than this entry of a first one and the second site after it
abbrev pub IsNoLess : List Entry → Pair → Entry → Type 0
IsNoLess es p e = (p.outer ≡ true → e.from < e.to) →
    WeighsBehind es es (plain_site p.left) e.from e.to e.value (plain_site p.second) p.inner

-- the left site weighs no more than any of these entries of a first one and the second site after
-- it
abbrev pub AreNoLess : List Entry → Pair → List Entry → Type 0
AreNoLess es p firsts = (k : ℕ) (d : Entry) → k < length firsts → IsNoLess es p (get_or firsts k d)
