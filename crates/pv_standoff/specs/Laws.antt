-- The laws of ranges, each a statement.
use Rattle.std.specs.Prelude.{◌≡◌, ◌<◌, ◌≤◌, ◌↔◌, ◌⊎◌, ℕ, false, List, length, IsPermutation}
use Rattle.std.specs.Prelude.{Result, Ok, Err}
use Rattle.std.specs.List.{All}
use Rattle.pv_chars.specs.Texts.{holds_close_mark}
use Rattle.pv_chars.specs.Units.{TextMeans}
use Rattle.pv_tree.specs.Plain.{PlainDoc}
use Rattle.pv_tree.specs.declared.nodes.Mark.{Mark}
use Rattle.pv_standoff.specs.Lines.{RangesMean}
use Rattle.pv_standoff.specs.NestOutcomes.{NestMeans}
use Rattle.pv_standoff.specs.Ranges.{NoneTwice, NoneCross}
use Rattle.pv_standoff.specs.Spans.{StandsForRanges}
use Rattle.pv_standoff.specs.declared.errors.NestError.{NestError}
use Rattle.pv_standoff.specs.declared.errors.NestError.TheVariants.{Outside}
use Rattle.pv_standoff.specs.declared.errors.RangesError.{RangesError}
use Rattle.pv_standoff.specs.declared.ranges.Range.{Range}

-- at most one document stands for a text and ranges, of which none is empty and none twice
abbrev pub OneDocument : Type 0
OneDocument = (root : List ℕ) (text : List (List ℕ)) (ranges : List Range)
    (d e : PlainDoc Mark) → All (λ r. r.from < r.to) ranges → NoneTwice ranges →
    StandsForRanges root text ranges d → StandsForRanges root text ranges e → d ≡ e

-- there is one exactly where each range ends within the text and none cross
abbrev pub HasDocument : Type 0
HasDocument = (root : List ℕ) (text : List (List ℕ)) (ranges : List Range) →
    All (λ r. r.from < r.to) ranges →
    ((d : PlainDoc Mark) × StandsForRanges root text ranges d)
    ↔ (All (λ r. r.to ≤ length text) ranges × NoneCross ranges)

-- a text and ranges mean at most one thing
abbrev pub OneMeaning : Type 0
OneMeaning = (root : List ℕ) (text : List (List ℕ)) (ranges : List Range)
    (o p : Result (PlainDoc Mark) NestError) → NestMeans root text ranges o →
    NestMeans root text ranges p → o ≡ p

-- a text and ranges mean something
abbrev pub SomeMeaning : Type 0
SomeMeaning = (root : List ℕ) (text : List (List ℕ)) (ranges : List Range) →
    (o : Result (PlainDoc Mark) NestError) × NestMeans root text ranges o

-- what ranges mean doesn't depend on their order, but for the number of a range outside
abbrev pub SameForAnyOrder : Type 0
SameForAnyOrder = (root : List ℕ) (text : List (List ℕ)) (ranges others : List Range)
    (o : Result (PlainDoc Mark) NestError) → IsPermutation ranges others →
    NestMeans root text ranges o →
    NestMeans root text others o ⊎ ((k : ℕ) × (o ≡ Err (Outside k)))

-- bytes mean at most one thing as ranges
abbrev pub OneReading : Type 0
OneReading = (bytes : List ℕ) (o p : Result (List Range) RangesError) → RangesMean bytes o →
    RangesMean bytes p → o ≡ p

-- bytes mean something as ranges
abbrev pub SomeReading : Type 0
SomeReading = (bytes : List ℕ) → (o : Result (List Range) RangesError) × RangesMean bytes o

-- `]]>` stands nowhere among the units that a text means (XML 1.0, 2.4)
abbrev pub TextsHaveNoCloseMark : Type 0
TextsHaveNoCloseMark = (bytes : List ℕ) (units : List (List ℕ)) → TextMeans bytes (Ok units) →
    holds_close_mark units ≡ false
