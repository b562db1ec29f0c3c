-- The least costs of reaches.
use Rattle.std.specs.Prelude.{Bool, cond, false, min, nat_le, true}
use Rattle.std.proofs.Common.{List, [], arith, drop, get_or, inl, inr, length, refl, suc, zero, ℕ, ◌+◌, ◌<◌, ◌∷◌, ◌≡◌, ◌≤◌, ◌⊎◌}
use Rattle.std.proofs.lemmas.Bool.{cases_lt, le-leb, lt-leb}
use Rattle.std.proofs.lemmas.List.{drop_more}
use Rattle.pv_rules.specs.Derivations.{heaviest}
use Rattle.pv_bounds.specs.Fronts.{cost_up_to, least_to}
use Rattle.pv_bounds.specs.declared.fronts.Reach.{Reach}

pub up_to_end : (j : ℕ) (r : Reach) → j ≤ r.end → cost_up_to j r ≡ min heaviest r.cost
up_to_end j r l = let e : nat_le j r.end ≡ true = le-leb j r.end l in rw e refl

pub past_end : (j : ℕ) (r : Reach) → r.end < j → cost_up_to j r ≡ heaviest
past_end j r l = let e : nat_le j r.end ≡ false = lt-leb j r.end l in rw e refl

light_case : (b : Bool) (x : ℕ) → cond b (min heaviest x) heaviest ≤ heaviest
light_case true x = omega arith
light_case false x = omega arith

pub up_to_light : (j : ℕ) (r : Reach) → cost_up_to j r ≤ heaviest
up_to_light j r = light_case (nat_le j r.end) r.cost

pub least_light : (j : ℕ) (xs : List Reach) → least_to j xs ≤ heaviest
least_light j [] = omega arith
least_light j (r ∷ rs) = let l = least_light j rs in omega arith

-- a reach costs no less up to a farther place
up_to_rises : (j k : ℕ) (r : Reach) → j ≤ k → cost_up_to j r ≤ cost_up_to k r
up_to_rises j k r l = elim (cases_lt r.end k) [
  | inl lt ↦ (let e = past_end k r lt in let u = up_to_light j r in omega arith)
  | inr le ↦ (let e = up_to_end k r le in let f = up_to_end j r (omega arith) in omega arith)
]

pub least_rises : (j k : ℕ) (xs : List Reach) → j ≤ k → least_to j xs ≤ least_to k xs
least_rises j k [] l = omega arith
least_rises j k (r ∷ rs) l = let u = up_to_rises j k r l in let t = least_rises j k rs l in omega arith

-- what is no more than the cost of each reach up to a place, and so much, is no more than the least
pub least_above : (k a b : ℕ) (xs : List Reach) → a ≤ heaviest → ((m : ℕ) (d : Reach) → m < length xs → k ≤ (get_or xs m d).end → a ≤ (get_or xs m d).cost + b) → a ≤ least_to k xs + b
least_above k a b [] l h = omega arith
least_above k a b (r ∷ rs) l h =
    let t = least_above k a b rs l (λ m d lt le. h (suc m) d (omega arith) le) in
    let u : a ≤ cost_up_to k r + b = by_end (cases_lt r.end k) in omega arith
  where
    by_end : (r.end < k) ⊎ (k ≤ r.end) → a ≤ cost_up_to k r + b
    by_end (inl lt) = let e = past_end k r lt in omega arith
    by_end (inr le) = let e = up_to_end k r le in let g = h zero r (omega arith) le in omega arith

-- so the ones cost no more than the others where they do up to the end of each of these
pub all_covered : (ones others : List Reach) (extra : ℕ) → ((m : ℕ) (d : Reach) → m < length others → least_to (get_or others m d).end ones ≤ extra + (get_or others m d).cost) →
    (j : ℕ) → least_to j ones ≤ extra + least_to j others
all_covered ones others extra h j =
    let t : least_to j ones ≤ least_to j others + extra =
    least_above j (least_to j ones) extra others (least_light j ones)
    (λ m d lt le. let a = h m d lt in let b = least_rises j (get_or others m d).end ones le in omega arith) in omega arith

-- one reach more of a loop
pub least_step : (j n : ℕ) (xs : List Reach) (i : ℕ) (d : Reach) → i < length xs → min (min n (cost_up_to j (get_or xs i d))) (least_to j (drop (i + 1) xs)) ≡ min n (least_to j (drop i xs))
least_step j n xs i d lt = let e = drop_more xs i d lt in rw e (omega arith)

-- the least cost is no more than that of a reach that goes so far
pub least_below : (e : ℕ) (xs : List Reach) (i : ℕ) (d : Reach) → i < length xs → e ≤ (get_or xs i d).end → least_to e xs ≤ (get_or xs i d).cost
least_below e [] i d lt le = omega arith
least_below e (r ∷ rs) zero d lt le = let u = up_to_end e r le in omega arith
least_below e (r ∷ rs) (suc i) d lt le = let t = least_below e rs i d (omega arith) le in omega arith

-- the ones cost no more than the others where they do so up to the end of each of the first of
-- these, and no more than the rest
pub part_covered : (ones others : List Reach) (extra count : ℕ) →
    ((m : ℕ) (d : Reach) → m < count → m < length others →
    least_to (get_or others m d).end ones ≤ extra + (get_or others m d).cost) →
    (j : ℕ) → least_to j ones ≤ extra + least_to j (drop count others) →
    least_to j ones ≤ extra + least_to j others
part_covered ones others extra zero h j rest = rest
part_covered ones [] extra (suc n) h j rest = rest
part_covered ones (r ∷ rs) extra (suc n) h j rest =
    let t = part_covered ones rs extra n (λ m d lt w. h (suc m) d (omega arith) (omega arith)) j
    rest in
    let u : least_to j ones ≤ extra + cost_up_to j r = by_end (cases_lt r.end j) in omega arith
  where
    by_end : (r.end < j) ⊎ (j ≤ r.end) → least_to j ones ≤ extra + cost_up_to j r
    by_end (inl lt) = let e = past_end j r lt in let l = least_light j ones in omega arith
    by_end (inr le) =
        let e = up_to_end j r le in
        let g = h zero r (omega arith) (omega arith) in
        let b = least_rises j r.end ones le in
        let l = least_light j ones in omega arith

-- the ones and so much cost no more than the others after a place where they do so up to the end of
-- each of the first of these, and no more than the rest
pub part_after : (ones others : List Reach) (extra place count : ℕ) →
    ((m : ℕ) (d : Reach) → m < count → m < length others → place < (get_or others m d).end →
    min heaviest (extra + least_to (get_or others m d).end ones) ≤ (get_or others m d).cost) →
    (k : ℕ) → place < k → min heaviest (extra + least_to k ones)
    ≤ least_to k (drop count others) →
    min heaviest (extra + least_to k ones) ≤ least_to k others
part_after ones others extra place zero h k after rest = rest
part_after ones [] extra place (suc n) h k after rest = rest
part_after ones (r ∷ rs) extra place (suc n) h k after rest =
    let t = part_after ones rs extra place n (λ m d lt w. h (suc m) d (omega arith) (omega arith)) k
    after rest in
    let u : min heaviest (extra + least_to k ones) ≤ cost_up_to k r = by_end (cases_lt r.end k) in
    omega arith
  where
    by_end : (r.end < k) ⊎ (k ≤ r.end) → min heaviest (extra + least_to k ones) ≤ cost_up_to k r
    by_end (inl lt) = let e = past_end k r lt in omega arith
    by_end (inr le) =
        let e = up_to_end k r le in
        let g = h zero r (omega arith) (omega arith) (omega arith) in
        let b = least_rises k r.end ones le in omega arith
