-- What is left of chains of numbers, and of a search along edges.
use Rattle.std.specs.Prelude.{Bool, List, None, Option, Some, [], false, length, suc, true, ℕ}
use Rattle.std.specs.Prelude.{◌+◌, ◌-◌, ◌∷◌}
use Rattle.pv_reach.specs.declared.graph.chains.Chains.{Chains}
use Rattle.pv_reach.specs.declared.graph.leaving.Visit.{Visit}
use Rattle.pv_reach.specs.declared.graph.leaving.Visits.{Visits}

-- how many numbers of a chain may still come
abbrev pub numbers_left : Chains → Option ℕ → ℕ
numbers_left chains None = 0
numbers_left chains (Some number) = suc (length chains.next.items - number)

-- how often the search may still come back to a column on its trail
abbrev pub steps_of : Chains → Visit → ℕ
steps_of chains visit = suc (numbers_left chains visit.next)

-- how often it may come back to all of these
abbrev pub steps_on : Chains → List Visit → ℕ
steps_on chains [] = 0
steps_on chains (visit ∷ visits) = steps_of chains visit + steps_on chains visits

-- how often it may come to the columns that weren't entered
abbrev pub steps_unentered : Chains → List Bool → ℕ
steps_unentered chains [] = 0
steps_unentered chains (true ∷ entered) = steps_unentered chains entered
steps_unentered chains (false ∷ entered) =
    suc (suc (length chains.next.items)) + steps_unentered chains entered

-- how often it may come to any column
abbrev pub steps_left : Chains → Visits → ℕ
steps_left chains visits =
    steps_on chains visits.trail.items + steps_unentered chains visits.entered.items
