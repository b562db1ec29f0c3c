-- Cuts that hold for what levels tell.
use Rattle.std.proofs.Common.{List, ap, arith, get_or, inl, inr, length, subst, sym, ℕ, ◌+◌, ◌-◌, ◌<◌, ◌∙◌, ◌≡◌, ◌≤◌, ◌⊎◌}
use Rattle.std.proofs.lemmas.Bool.{cases_lt}
use Rattle.std.proofs.lemmas.List.{get_or_default}
use Rattle.pv_bounds.specs.Fronts.{least_to, reaches_at}
use Rattle.pv_bounds.specs.Windows.{IsWindow, TellsEnd, TellsReach}
use Rattle.pv_bounds.specs.declared.fronts.Fronts.{Fronts}
use Rattle.pv_bounds.specs.declared.fronts.Reach.{Reach}
use Rattle.pv_bounds.specs.declared.windows.Level.{Level}
use Rattle.pv_bounds.proofs.LeastCosts.{all_covered, least_above, least_light}

-- each level holds, so all that is told does
pub all_levels : (ones : List Reach) (end cost : ℕ) (levels : List Level) →
    ((m : ℕ) (x : Level) → m < length levels → (k e : ℕ) → k ≤ end → TellsEnd (get_or levels m x).records.items k e → least_to e ones ≤ cost + (get_or levels m x).cost) →
    (k : ℕ) (r : Reach) → k ≤ end → TellsReach levels k r → least_to r.end ones ≤ cost + r.cost
all_levels ones end cost levels h k r le (x, (n, lt, is), c, tells) =
    let t : TellsEnd (get_or levels n x).records.items k r.end = rw (sym is) at tells in
    let a = h n x lt k r.end le t in
    let f : (get_or levels n x).cost ≡ x.cost = ap (λ (y : Level). y.cost) is in omega arith

-- a cut at each place of a window
pub window_cuts : (fronts : Fronts) (e i p n : ℕ) (levels : List Level) (ones firsts : List Reach) →
    ((m : ℕ) (d : Reach) → m < length firsts → (k : ℕ) (r : Reach) → k ≤ (get_or firsts m d).end → TellsReach levels k r → least_to r.end ones ≤ (get_or firsts m d).cost + r.cost) →
    IsWindow fronts e p n levels → p ≤ i + 1 → (k j : ℕ) → i < k → k < n →
    least_to j ones ≤ least_to k firsts + least_to j (reaches_at fronts e k)
window_cuts fronts e i p n levels ones firsts h window near k j a b =
    least_above k (least_to j ones) (least_to j (reaches_at fronts e k)) firsts (least_light j ones)
    (λ m d lt le. all_covered ones (reaches_at fronts e k) (get_or firsts m d).cost
    (λ q f l. h m d lt k (get_or (reaches_at fronts e k) q f) le (window k (omega arith) b q f l))
    j)

-- what holds of the numbers below one, and of it
pub below_one_more : (P : ℕ → Type 0) (n : ℕ) → ((k : ℕ) → k < n → P k) → P n → (k : ℕ) → k < n + 1 → P k
below_one_more P n h last k lt = by_place (cases_lt k n)
  where
    by_place : (k < n) ⊎ (n ≤ k) → P k
    by_place (inl l) = h k l
    by_place (inr l) = let same : k ≡ n = omega arith in rw same last

-- what holds of the numbers from one on, and of the one before it
pub from_one_more : (P : ℕ → Type 0) (p n : ℕ) → 0 < p → ((k : ℕ) → p ≤ k → k < n → P k) → P (p - 1) → (k : ℕ) → p - 1 ≤ k → k < n → P k
from_one_more P p n some h last k le lt = by_place (cases_lt k p)
  where
    by_place : (k < p) ⊎ (p ≤ k) → P k
    by_place (inl l) = let same : k ≡ p - 1 = omega arith in rw same last
    by_place (inr l) = h k l lt

-- what holds of the first elements, and of the next one
pub first_one_more : {X : Type 0} (P : X → Type 0) (xs : List X) (n : ℕ) (e : X) → n < length xs →
    ((m : ℕ) (d : X) → m < n → P (get_or xs m d)) → P (get_or xs n e) → (m : ℕ) (d : X) →
    m < n + 1 → P (get_or xs m d)
first_one_more {X = X} P xs n e within h last m d lt = by_place (cases_lt m n)
  where
    by_place : (m < n) ⊎ (n ≤ m) → P (get_or xs m d)
    by_place (inl l) = h m d l
    by_place (inr l) =
        let same : n ≡ m = omega arith in
        let at : get_or xs n e ≡ get_or xs m d = get_or_default xs n e d within ∙ ap (λ k. get_or xs k d) same in subst P at last
