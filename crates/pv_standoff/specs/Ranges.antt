-- Ranges beside a text: sorted order, twice, crossing.
use Rattle.std.specs.Prelude.{◌≡◌, ◌⊎◌, ◌<◌, ◌≤◌, ℕ, List, [], ◌∷◌, IsPermutation}
use Rattle.std.specs.List.{AllByRecursion, Contains}
use Rattle.pv_chars.specs.Names.{IsName}
use Rattle.pv_standoff.specs.declared.ranges.Range.{Range}

-- the most ranges
abbrev pub MAX_RANGES : ℕ
MAX_RANGES = 1048576

-- r stands before q in sorted order: by `from` rising, then `to` falling, then `level` rising
abbrev pub IsRangeBefore : Range → Range → Type 0
IsRangeBefore r q = (r.from < q.from) ⊎ (r.from ≡ q.from) × (q.to < r.to) ⊎
    (r.from ≡ q.from) × (q.to ≡ r.to) × (r.level < q.level)

-- two ranges have the same `from`, `to` and `level`
abbrev pub HaveSamePlace : Range → Range → Type 0
HaveSamePlace r q = (r.from ≡ q.from) × (r.to ≡ q.to) × (r.level ≡ q.level)

-- no later range stands before an earlier one in sorted order
abbrev pub AreSorted : List Range → Type 0
AreSorted [] = Unit {0}
AreSorted (r ∷ rs) = AllByRecursion (λ q. IsRangeBefore q r → ⊥) rs × AreSorted rs

-- These ranges, each as often, in sorted order.
pub record IsSortedFrom (ranges sorted : List Range) : Type 0 where
  pub permutation : IsPermutation ranges sorted
  pub in_order : AreSorted sorted

-- no two ranges have the same `from`, `to` and `level`
abbrev pub NoneTwice : List Range → Type 0
NoneTwice [] = Unit {0}
NoneTwice (r ∷ rs) = AllByRecursion (λ q. HaveSamePlace r q → ⊥) rs × NoneTwice rs

-- two ranges cross: the first begins first, and ends within the second
abbrev pub Cross : Range → Range → Type 0
Cross r q = (r.from < q.from) × (q.from < r.to) × (r.to < q.to)

-- no range of the list crosses another of it
abbrev pub NoneCross : List Range → Type 0
NoneCross ranges = (r q : Range) → Contains ranges r → Contains ranges q → Cross r q → ⊥

-- of ranges in sorted order, none crosses a later one
abbrev pub NoneCrossLater : List Range → Type 0
NoneCrossLater [] = Unit {0}
NoneCrossLater (r ∷ rs) = AllByRecursion (λ q. Cross r q → ⊥) rs × NoneCrossLater rs

-- a range holds a unit, and ends within a text of n units
abbrev pub IsInsideText : ℕ → Range → Type 0
IsInsideText n r = (r.from < r.to) × (r.to ≤ n)

-- the name of each range is a Name (XML 1.0, 2.3)
abbrev pub AreNamed : List Range → Type 0
AreNamed ranges = AllByRecursion (λ r. IsName r.name) ranges
