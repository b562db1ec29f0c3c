-- Levels of which one is changed or put with the others.
use Rattle.std.specs.List.{Contains}
use Rattle.std.proofs.Common.{List, [], ap, arith, get_or, get_or-set_other, get_or-set_same, inl, inr, length, set, sym, ℕ, ◌++◌, ◌+◌, ◌<◌, ◌∙◌, ◌∷◌, ◌≡◌, ◌≤◌, ◌⊎◌}
use Rattle.std.proofs.Math.ListN.{length-set}
use Rattle.std.proofs.lemmas.Bool.{cases_eq, cases_lt}
use Rattle.std.proofs.lemmas.List.{get_or_default}
use Rattle.std.proofs.lemmas.List.Elements.{All-contains, All-set, Contains-append_left}
use Rattle.pv_bounds.specs.Fronts.{reaches_at}
use Rattle.pv_bounds.specs.Windows.{AllFalling, AllTold, AreFalling, IsWindow, KeepsTold, TellsEnd, TellsReach}
use Rattle.pv_bounds.specs.declared.fronts.Fronts.{Fronts}
use Rattle.pv_bounds.specs.declared.fronts.Reach.{Reach}
use Rattle.pv_bounds.specs.declared.windows.Level.{Level}

module _ {X : Type 0} (xs : List X) (i : ℕ) (y : X) (lt : i < length xs) where
  pub set_contains : Contains (set xs i y) y
  set_contains = (i, (let n = length-set xs i y in omega arith), get_or-set_same xs i y y lt)

  -- the others stay
  pub contains_set : (x : X) → Contains xs x → Contains (set xs i y) x ⊎ (get_or xs i x ≡ x)
  contains_set x (k, l, is) = by_place (cases_eq k i)
    where
      by_place : (k ≡ i) ⊎ (k ≡ i → ⊥) → Contains (set xs i y) x ⊎ (get_or xs i x ≡ x)
      by_place (inl e) = inr (rw e at is)
      by_place (inr ne) = inl (k, (let n = length-set xs i y in omega arith), get_or-set_other xs i k y x ne ∙ is)

-- a level that is put with the others
pub push_keeps : (levels : List Level) (new : Level) → KeepsTold levels (levels ++ new ∷ [])
push_keeps levels new k r (x, has, cost, tells) = (x, Contains-append_left levels (new ∷ []) x has, cost, tells)

module _ (levels : List Level) (i : ℕ) (old new : Level) (lt : i < length levels) (is : old ≡ get_or levels i old) (cost : new.cost ≡ old.cost) where
  -- nothing is lost where the level keeps what it tells
  pub set_keeps : ((k e : ℕ) → TellsEnd old.records.items k e → TellsEnd new.records.items k e) → KeepsTold levels (set levels i new)
  set_keeps keeps k r (x, has, c, tells) = by_case (contains_set levels i new lt x has)
    where
      by_case : Contains (set levels i new) x ⊎ (get_or levels i x ≡ x) → TellsReach (set levels i new) k r
      by_case (inl h) = (x, h, c, tells)
      by_case (inr e) =
          let same : old ≡ x = is ∙ get_or_default levels i old x lt ∙ e in
          let f : old.cost ≡ x.cost = ap (λ (y : Level). y.cost) same in
          let t : TellsEnd old.records.items k r.end = rw (sym same) at tells in
          (new, set_contains levels i new lt, (omega arith), keeps k r.end t)

  pub set_tells : (k : ℕ) (r : Reach) → old.cost ≤ r.cost → TellsEnd new.records.items k r.end → TellsReach (set levels i new) k r
  set_tells k r c tells = (new, set_contains levels i new lt, (omega arith), tells)

  pub set_falls : AllFalling levels → AreFalling new.records.items → AllFalling (set levels i new)
  set_falls all one = All-set (λ (x : Level). AreFalling x.records.items) levels i new one all

  pub old_falls : AllFalling levels → AreFalling old.records.items
  old_falls all = All-contains (λ (x : Level). AreFalling x.records.items) levels old all (i, lt, sym is)

pub keeps_both : (a b c : List Level) → KeepsTold a b → KeepsTold b c → KeepsTold a c
keeps_both a b c f g k r t = g k r (f k r t)

-- one place more of a window
pub window_more : (fronts : Fronts) (c i p n : ℕ) (old new : List Level) →
    IsWindow fronts c p n old → p ≤ i + 1 → KeepsTold old new →
    AllTold new i (reaches_at fronts c i) → IsWindow fronts c i n new
window_more fronts c i p n old new w near keeps told k le lt m d l = by_place (cases_lt i k)
  where
    by_place : (i < k) ⊎ (k ≤ i) → TellsReach new k (get_or (reaches_at fronts c k) m d)
    by_place (inl q) = keeps k (get_or (reaches_at fronts c k) m d) (w k (omega arith) lt m d l)
    by_place (inr q) =
        let same : k ≡ i = omega arith in
        let z : m < length (reaches_at fronts c i) = rw same at l in rw same (told m d z)
