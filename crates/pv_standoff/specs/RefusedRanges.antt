-- Which ranges no document stands for: the first outside, the first twice, the first crossing.
use Rattle.std.specs.Prelude.{◌≡◌, ℕ, List, [], ◌∷◌, ◌++◌, length}
use Rattle.std.specs.List.{AllByRecursion}
use Rattle.pv_standoff.specs.Ranges.{IsInsideText, HaveSamePlace, NoneTwice, Cross, NoneCrossLater}
use Rattle.pv_standoff.specs.declared.ranges.Range.{Range}

-- Range number k from 0 is the first that is empty or doesn't end within a text of n units.
pub record IsFirstOutside (n : ℕ) (ranges : List Range) (k : ℕ) : Type 0 where
  pub before : List Range
  pub range : Range
  pub after : List Range
  pub is_split : ranges ≡ before ++ range ∷ after
  pub is_number : k ≡ length before
  pub inside : AllByRecursion (IsInsideText n) before
  pub outside : IsInsideText n range → ⊥

-- In sorted order, r has the same place as the range after it, and is the first that has.
pub record IsFirstTwice (sorted : List Range) (r : Range) : Type 0 where
  pub before : List Range
  pub second : Range
  pub after : List Range
  pub is_split : sorted ≡ before ++ r ∷ second ∷ after
  pub once : NoneTwice (before ++ r ∷ [])
  pub same : HaveSamePlace r second

-- In sorted order, q is the first range that crosses one before it, and r the last before it that
-- it crosses.
pub record IsFirstCrossing (sorted : List Range) (r q : Range) : Type 0 where
  pub before : List Range
  pub between : List Range
  pub after : List Range
  pub is_split : sorted ≡ before ++ r ∷ (between ++ q ∷ after)
  pub none_before : NoneCrossLater (before ++ r ∷ between)
  pub cross : Cross r q
  pub none_between : AllByRecursion (λ x. Cross x q → ⊥) between
