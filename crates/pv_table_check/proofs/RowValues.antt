-- Values that are laid out, and sums of them.
use Rattle.std.proofs.Common.{◌≡◌, ◌<◌, ◌≤◌, ◌+◌, ◌-◌, ◌⊎◌, Bool, true, false, ℕ, List, Some, refl, inl, inr, suc, sym, ap, subst, min, length}
use Rattle.std.proofs.Common.{slice_get, get_or, drop, length-drop, arith, ◌∙◌, [], ◌∷◌, ◌++◌, zero, if◌then◌else◌}
use Rattle.std.proofs.lemmas.Bool.{cases_lt}
use Rattle.std.proofs.lemmas.List.{get_or-drop, get_or_push, length_push}
use Rattle.std.proofs.lemmas.Option.{slice_get-get_or}
use Rattle.pv_rules.specs.Derivations.{heaviest}
use Rattle.pv_rules.specs.Rules.{Goal, over}
use Rattle.pv_rules.specs.Sites.{PlainSite}
use Rattle.pv_tables.specs.TableLaws.{ListedOrNot}
use Rattle.pv_tables.specs.Values.{IsListed, IsUnlisted, listed_value}
use Rattle.pv_tables.specs.declared.tables.Entry.{Entry}
use Rattle.pv_table_check.specs.ClosedForms.{WeighsBehind}
use Rattle.pv_table_check.specs.Rows.{AreOverPlaces, AreValueRows, AreValuesFrom}
use Rattle.pv_table_check.specs.declared.rows.Row.{Row}
use Rattle.pv_table_check.proofs.ClosedSites.{is_light}

module _ (cases : ListedOrNot) (es : List Entry) (most : ℕ) (o : AreOverPlaces es most) where
  pub within_or_heavy : (s : PlainSite) (k j : ℕ) → ((k ≤ j) × (j ≤ most)) ⊎ (listed_value es (over s k j) ≡ heaviest)
  within_or_heavy s k j = by_case (cases es (over s k j))
    where
      by_case : IsListed es (over s k j) ⊎ IsUnlisted es (over s k j) → ((k ≤ j) × (j ≤ most)) ⊎ (listed_value es (over s k j) ≡ heaviest)
      by_case (inl (e, m, q, v)) =
          let p = o.span e m in
          let f : e.from ≡ k = ap (λ (x : Goal). x.from) q in
          let t : e.to ≡ j = ap (λ (x : Goal). x.to) q in
          inl ((let x = p.0 in omega arith), (let x = p.1 in omega arith))
      by_case (inr (v, none)) = inr v

  -- a site after an entry weighs no less exactly where no sum of two values is less
  module _ (l s : PlainSite) (from to v : ℕ) (inner : Bool) (ls ss : List ℕ)
      (lv : AreValuesFrom es l most from ls) (sv : AreValuesFrom es s most to ss) (rise : from ≤ to)
      (n : ℕ) (is : n ≡ (if inner then 1 else 0)) where
    abbrev start : ℕ
    start = (to - from) + n

    abbrev pub AreWithin : Type 0
    AreWithin = (k : ℕ) → k < length (drop n ss) → get_or (drop ((to - from) + n) ls) k 0 ≤ v + get_or (drop n ss) k 0

    second_at : (k : ℕ) → k < length (drop n ss) → get_or (drop n ss) k 0 ≡ listed_value es (over s to (to + (n + k)))
    second_at k lt = get_or-drop n ss k 0 ∙ sv.each (n + k) (omega (arith, lt, length-drop n ss))

    left_at : (k : ℕ) → k < length (drop n ss) → get_or (drop ((to - from) + n) ls) k 0 ≡ listed_value es (over l from (to + (n + k)))
    left_at k lt =
        let same : from + (((to - from) + n) + k) ≡ to + (n + k) = omega arith in
        let a = lv.long in let b = sv.long in
        get_or-drop ((to - from) + n) ls k 0 ∙ lv.each (((to - from) + n) + k) (omega (arith, lt, length-drop n ss)) ∙ ap (λ j. listed_value es (over l from j)) same

    more_by : (b : Bool) → n ≡ (if b then 1 else 0) → (j : ℕ) → to ≤ j → (b ≡ true → to < j) → to + n ≤ j
    more_by true e j le lt = let x = lt refl in omega arith
    more_by false e j le lt = omega arith

    less_by : (b : Bool) → n ≡ (if b then 1 else 0) → (k : ℕ) → b ≡ true → to < to + (n + k)
    less_by true e k t = omega arith
    less_by false e k t = absurd cc

    pub to_behind : AreWithin → WeighsBehind es es l from to v s inner
    to_behind h j more = by_case (within_or_heavy s to j)
      where
        by_case : ((to ≤ j) × (j ≤ most)) ⊎ (listed_value es (over s to j) ≡ heaviest) → listed_value es (over l from j) ≤ min heaviest (v + listed_value es (over s to j))
        by_case (inl (le, few)) =
            let b = sv.long in
            let far : to + n ≤ j = more_by inner is j le more in
            let k = j - (to + n) in
            let lt : k < length (drop n ss) = omega (arith, length-drop n ss) in
            let same : to + (n + k) ≡ j = omega arith in
            let x = h k lt in
            let y : get_or (drop n ss) k 0 ≡ listed_value es (over s to j) = second_at k lt ∙ ap (λ i. listed_value es (over s to i)) same in
            let z : get_or (drop ((to - from) + n) ls) k 0 ≡ listed_value es (over l from j) = left_at k lt ∙ ap (λ i. listed_value es (over l from i)) same in
            let u = is_light cases es o.order (over l from j) in omega arith
        by_case (inr e) = let u = is_light cases es o.order (over l from j) in omega arith

    pub from_behind : WeighsBehind es es l from to v s inner → AreWithin
    from_behind h k lt =
        let x = h (to + (n + k)) (less_by inner is k) in
        let y = second_at k lt in
        let z = left_at k lt in omega arith

-- ---- one more at the end
module _ {X : Type 0} where
  pub more_at : (xs : List X) (y d : X) (k : ℕ) → k < length xs → get_or (xs ++ y ∷ []) k d ≡ get_or xs k d
  more_at [] y d k lt = absurd (omega arith)
  more_at (x ∷ xs) y d zero lt = refl
  more_at (x ∷ xs) y d (suc k) lt = more_at xs y d k (omega arith)

  pub more_each : (P : ℕ → X → Type 0) (xs : List X) (x : X) → ((i : ℕ) (r : X) → slice_get xs i ≡ Some r → P i r) → P (length xs) x → (i : ℕ) (r : X) → slice_get (xs ++ x ∷ []) i ≡ Some r → P i r
  more_each P [] x h p zero r e = let same : x ≡ r = cc in subst (P 0) same p
  more_each P [] x h p (suc i) r e = absurd cc
  more_each P (y ∷ xs) x h p zero r e = h zero r e
  more_each P (y ∷ xs) x h p (suc i) r e = more_each (λ j. P (suc j)) xs x (λ j q f. h (suc j) q f) p i r e

module _ (es : List Entry) (s : PlainSite) (from : ℕ) where
  abbrev pub AreSoFar : List ℕ → Type 0
  AreSoFar values = (k : ℕ) → k < length values → get_or values k 0 ≡ listed_value es (over s from (from + k))

  pub one_more : (values : List ℕ) (v to : ℕ) → AreSoFar values → from + length values ≡ to → v ≡ listed_value es (over s from to) → AreSoFar (values ++ v ∷ [])
  one_more values v to h long e k lt = by_place (cases_lt k (length values))
    where
      by_place : (k < length values) ⊎ (length values ≤ k) → get_or (values ++ v ∷ []) k 0 ≡ listed_value es (over s from (from + k))
      by_place (inl x) = more_at values v 0 k x ∙ h k x
      by_place (inr x) =
          let l = length_push values v in
          let last : length values ≡ k = omega arith in
          let same : to ≡ from + k = omega arith in
          get_or_push values v 0 k last ∙ e ∙ ap (λ j. listed_value es (over s from j)) same

-- the row of a place
pub row_at : (es : List Entry) (s : PlainSite) (most : ℕ) (rows : List Row) →
    AreValueRows es s most rows → (i : ℕ) (r : Row) → r ≡ get_or rows i r → i < length rows →
    AreValuesFrom es s most i r.values.items
row_at es s most rows are i r e lt = are.each i r (slice_get-get_or rows i r lt ∙ ap Some (sym e))
