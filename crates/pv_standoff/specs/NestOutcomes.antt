-- What comes of a text and ranges.
use Rattle.std.specs.Prelude.{◌≡◌, ◌<◌, ◌≤◌, ℕ, List, length, Result, Ok, Err}
use Rattle.std.specs.List.{AllByRecursion}
use Rattle.pv_tree.specs.Legal.{MAX_DEPTH}
use Rattle.pv_tree.specs.Plain.{PlainDoc, depth_of}
use Rattle.pv_tree.specs.declared.nodes.Mark.{Mark}
use Rattle.pv_standoff.specs.Ranges.{IsInsideText, NoneTwice, NoneCross, IsSortedFrom}
use Rattle.pv_standoff.specs.Spans.{StandsForRanges}
use Rattle.pv_standoff.specs.RefusedRanges.{IsFirstOutside, IsFirstTwice, IsFirstCrossing}
use Rattle.pv_standoff.specs.declared.ranges.Range.{Range}
use Rattle.pv_standoff.specs.declared.errors.NestError.{NestError}
use Rattle.pv_standoff.specs.declared.errors.NestError.TheVariants as error

-- No range is outside, none twice, none cross, and this document stands for them.
pub record Nests (root : List ℕ) (text : List (List ℕ)) (ranges : List Range) (d : PlainDoc Mark)
    : Type 0 where
  pub inside : AllByRecursion (IsInsideText (length text)) ranges
  pub once : NoneTwice ranges
  pub none_cross : NoneCross ranges
  pub stands : StandsForRanges root text ranges d

-- None is outside, and this is the first place in sorted order that two have.
pub record HasTwice (text : List (List ℕ)) (ranges : List Range) (from to level : ℕ) : Type 0 where
  pub inside : AllByRecursion (IsInsideText (length text)) ranges
  pub sorted : List Range
  pub is_sorted : IsSortedFrom ranges sorted
  pub first : Range
  pub is_first : IsFirstTwice sorted first
  pub is_place : (first.from ≡ from) × (first.to ≡ to) × (first.level ≡ level)

-- None is outside, none twice, and these are the first two in sorted order that cross.
pub record HasCrossing (text : List (List ℕ)) (ranges : List Range)
    (from to next_from next_to : ℕ) : Type 0 where
  pub inside : AllByRecursion (IsInsideText (length text)) ranges
  pub once : NoneTwice ranges
  pub sorted : List Range
  pub is_sorted : IsSortedFrom ranges sorted
  pub first : Range
  pub next : Range
  pub is_first : IsFirstCrossing sorted first next
  pub is_range : (first.from ≡ from) × (first.to ≡ to)
  pub is_next : (next.from ≡ next_from) × (next.to ≡ next_to)

-- The ranges nest, and the document that stands for them is too deep.
pub record IsTooDeep (root : List ℕ) (text : List (List ℕ)) (ranges : List Range) : Type 0 where
  pub deep : PlainDoc Mark
  pub nests : Nests root text ranges deep
  pub too_deep : MAX_DEPTH < depth_of deep.root

-- why no document is given; want of memory is no meaning
abbrev pub Refuses : List ℕ → List (List ℕ) → List Range → NestError → Type 0
Refuses root text ranges (error.Outside k) = IsFirstOutside (length text) ranges k
Refuses root text ranges (error.Twice from to level) = HasTwice text ranges from to level
Refuses root text ranges (error.Crossing from to next_from next_to) =
    HasCrossing text ranges from to next_from next_to
Refuses root text ranges error.Deep = IsTooDeep root text ranges
Refuses root text ranges error.NoMemory = ⊥

-- what a text and ranges mean: the document that stands for them, or why there is none, the first
-- of outside, twice, crossing and too deep
abbrev pub NestMeans : List ℕ → List (List ℕ) → List Range →
    Result (PlainDoc Mark) NestError → Type 0
NestMeans root text ranges (Ok d) = Nests root text ranges d × (depth_of d.root ≤ MAX_DEPTH)
NestMeans root text ranges (Err e) = Refuses root text ranges e
