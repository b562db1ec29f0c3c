-- How a search along edges takes steps.
use Rattle.std.proofs.Common.{Bool, IfSome, List, None, Option, Some, [], arith, false, get_or}
use Rattle.std.proofs.Common.{length, set, suc, true, zero, ℕ, ◌++◌, ◌+◌, ◌<◌, ◌∷◌, ◌≡◌, ◌≤◌}
use Rattle.pv_reach.specs.Searches.{numbers_left, steps_of, steps_on, steps_unentered}
use Rattle.pv_reach.specs.declared.graph.chains.Chains.{Chains}
use Rattle.pv_reach.specs.declared.graph.leaving.Visit.{Visit}

pub numbers_next : (chains : Chains) (number : ℕ) (next : Option ℕ) →
    IfSome next (λ n. (number < n) × (number < length chains.next.items)) →
    numbers_left chains next < numbers_left chains (Some number)
numbers_next chains number None h = omega arith
numbers_next chains number (Some n) h = omega (arith, h.0, h.1)

pub numbers_most : (chains : Chains) (next : Option ℕ) →
    numbers_left chains next ≤ suc (length chains.next.items)
numbers_most chains None = omega arith
numbers_most chains (Some n) = omega arith

-- one more on the trail
pub on_trail_more : (chains : Chains) (trail : List Visit) (visit : Visit) →
    steps_on chains (trail ++ visit ∷ []) ≡ steps_on chains trail + steps_of chains visit
on_trail_more chains [] visit = omega arith
on_trail_more chains (v ∷ trail) visit = let r = on_trail_more chains trail visit in omega arith

-- one more that was entered
pub entered_more : (chains : Chains) (entered : List Bool) (c : ℕ) → c < length entered →
    get_or entered c false ≡ false →
    steps_unentered chains (set entered c true) + suc (suc (length chains.next.items)) ≡
    steps_unentered chains entered
entered_more chains [] c l e = absurd (omega arith)
entered_more chains (true ∷ entered) zero l e = absurd cc
entered_more chains (false ∷ entered) zero l e = omega arith
entered_more chains (true ∷ entered) (suc c) l e = entered_more chains entered c (omega arith) e
entered_more chains (false ∷ entered) (suc c) l e =
    let r = entered_more chains entered c (omega arith) e in omega arith
