-- Fronts are claims: this is the value of each column over each span that is read off them.
use Rattle.std.specs.Prelude.{List, None, Option, Some, [], drop, length, min, nat_le, nat_lt}
use Rattle.std.specs.Prelude.{slice_get, slice_index_or, slice_range, suc, take, ℕ}
use Rattle.std.specs.Prelude.{if◌then◌else◌, ◌&&◌, ◌+◌, ◌++◌, ◌∷◌}
use Rattle.pv_rules.specs.Derivations.{heaviest}
use Rattle.pv_rules.specs.Rules.{Goal}
use Rattle.pv_layout.specs.ColumnRules.{Cell, cell}
use Rattle.pv_layout.specs.Columns.{column_of}
use Rattle.pv_layout.specs.SiteForms.{plain_sites}
use Rattle.pv_layout.specs.declared.layout.ColumnLayout.{ColumnLayout}
use Rattle.pv_bounds.specs.declared.front.Front.{Front}
use Rattle.pv_bounds.specs.declared.fronts.Far.{Far}
use Rattle.pv_bounds.specs.declared.fronts.Fronts.{Fronts}
use Rattle.pv_bounds.specs.declared.fronts.Reach.{Reach}
use Rattle.pv_bounds.specs.declared.fronts.Row.{Row}

-- where the near reaches of a class start in a row
abbrev pub start_in : Row → ℕ → ℕ
start_in row c = slice_index_or row.starts.items c 0

-- the near reaches of a class in a row: up to where those of the next class start, if both are
-- there
abbrev pub reaches_in : Row → ℕ → List Reach
reaches_in row c =
    if nat_le (start_in row c) (start_in row (suc c)) &&
    nat_le (start_in row (suc c)) (length row.reaches.items)
    then slice_range row.reaches.items (start_in row c) (start_in row (suc c)) else []

-- a reach up to an end that fronts share
abbrev pub shared_reach : ℕ → ℕ → Reach
shared_reach n e = record { cost = n; end = e; via = 0 }

-- the reaches up to some ends, of which each costs one more than the one before it
abbrev pub rising : ℕ → List ℕ → List Reach
rising n [] = []
rising n (e ∷ es) = shared_reach n e ∷ rising (suc n) es

-- the reaches of a front
abbrev pub front_list : Front → List Reach
front_list f = f.near.now ++ rising f.cost (drop f.from (take f.to f.ends.now))

-- no shared ends
abbrev pub no_far : Far
no_far = record { «from» = 0; to = 0; cost = 0 }

-- the shared ends of a class in a row
abbrev pub far_in : Row → ℕ → Far
far_in row c = slice_index_or row.fars.items c no_far

-- the reaches up to shared ends, if these are there and the costs are numbers of 32 bits
abbrev pub far_reaches : List ℕ → Far → List Reach
far_reaches ends f =
    if nat_le f.to (length ends) && nat_le (f.cost + f.to) 4294967295
    then rising f.cost (drop f.from (take f.to ends)) else []

-- the class of a column: columns of one class have the same reaches
abbrev pub class_of : Fronts → ℕ → ℕ
class_of fronts c = slice_index_or fronts.classes.items c c

abbrev pub reaches_of : Fronts → Option Row → ℕ → List Reach
reaches_of fronts None k = []
reaches_of fronts (Some row) k = reaches_in row k ++ far_reaches fronts.ends.items (far_in row k)

-- the reaches of a column at a place; none where there is no row
abbrev pub reaches_at : Fronts → ℕ → ℕ → List Reach
reaches_at fronts c i = reaches_of fronts (slice_get fronts.rows.items i) (class_of fronts c)

-- the cost of a reach where it ends at place j or after it, cut
abbrev pub cost_up_to : ℕ → Reach → ℕ
cost_up_to j r = if nat_le j r.end then min heaviest r.cost else heaviest

-- the least cost of a reach that ends at place j or after it, cut
abbrev pub least_to : ℕ → List Reach → ℕ
least_to j [] = heaviest
least_to j (r ∷ rs) = min (cost_up_to j r) (least_to j rs)

-- what a column costs over no tokens, cut
abbrev pub empty_cost : List ℕ → ℕ → ℕ
empty_cost costs c = min heaviest (slice_index_or costs c heaviest)

-- what a column costs over the tokens from place i up to place j, or farther
abbrev pub cost_from : Fronts → ℕ → ℕ → ℕ → ℕ
cost_from fronts c i j = least_to j (reaches_at fronts c i)

-- what a column costs over a span
abbrev pub front_cost : Fronts → Cell → ℕ
front_cost fronts x =
    if nat_lt x.from x.to then cost_from fronts x.column x.from x.to
    else empty_cost fronts.empty.items x.column

-- what a site costs over a span
abbrev pub front_value : ColumnLayout → Fronts → Goal → ℕ
front_value layout fronts x =
    front_cost fronts (cell (column_of (plain_sites layout.sites) x.site) x.from x.to)
