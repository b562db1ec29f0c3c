-- Lines of ranges.
use Rattle.std.specs.Prelude.{◌≡◌, ◌<◌, ◌≤◌, ℕ, List, [], ◌∷◌, ◌++◌, length, decimal, Option, Some}
use Rattle.std.specs.Prelude.{None, Result, Ok, Err, option_and_then, option_map, if◌then◌else◌}
use Rattle.pv_chars.specs.Names.{IsName, is_name}
use Rattle.pv_words.specs.Numbers.{AreNumbers, number_spelled}
use Rattle.pv_words.specs.Lines.{lines_of}
use Rattle.pv_words.specs.Words.{first_word, words}
use Rattle.pv_standoff.specs.Ranges.{MAX_RANGES}
use Rattle.pv_standoff.specs.declared.errors.RangesError.{RangesError}
use Rattle.pv_standoff.specs.declared.errors.RangesError.TheVariants.{Syntax, Limit, NoMemory}
use Rattle.pv_standoff.specs.declared.ranges.Range.{Range}

-- A line spells a range: FROM, TO, LEVEL and NAME, with one blank between each two. The numbers
-- are in decimal digits, none past the largest, and NAME is a Name (XML 1.0, 2.3).
pub record SpellsRange (line : List ℕ) (r : Range) : Type 0 where
  pub text : line ≡ words (decimal r.from ∷ decimal r.to ∷ decimal r.level ∷ r.name ∷ [])
  pub numbers : AreNumbers (r.from ∷ r.to ∷ r.level ∷ [])
  pub is_name : IsName r.name

-- the line is no range
abbrev pub IsNoRange : List ℕ → Type 0
IsNoRange line = (r : Range) → SpellsRange line r → ⊥

-- the lines spell the ranges, one each
abbrev pub SpellRanges : List (List ℕ) → List Range → Type 0
SpellRanges [] [] = Unit {0}
SpellRanges (line ∷ lines) (r ∷ rs) = SpellsRange line r × SpellRanges lines rs
SpellRanges _ _ = ⊥

-- Behind so many lines, which are ranges, fewer than there may be, stands a line that is none.
pub record IsFirstNoRange (bytes : List ℕ) (k : ℕ) : Type 0 where
  pub before : List (List ℕ)
  pub line : List ℕ
  pub after : List (List ℕ)
  pub ranges : List Range
  pub is_split : lines_of bytes ≡ before ++ line ∷ after
  pub are_ranges : SpellRanges before ranges
  pub is_number : k ≡ length before
  pub within : k < MAX_RANGES
  pub no_range : IsNoRange line

-- Behind as many lines as there may be, which are ranges, stands a further line.
pub record HasTooMany (bytes : List ℕ) : Type 0 where
  pub before : List (List ℕ)
  pub line : List ℕ
  pub after : List (List ℕ)
  pub ranges : List Range
  pub is_split : lines_of bytes ≡ before ++ line ∷ after
  pub are_ranges : SpellRanges before ranges
  pub full : length before ≡ MAX_RANGES

-- what bytes mean as ranges: those that their lines spell, the number of the first line that is
-- none, or that there are too many; want of memory is no meaning
abbrev pub RangesMean : List ℕ → Result (List Range) RangesError → Type 0
RangesMean bytes (Ok ranges) = SpellRanges (lines_of bytes) ranges × (length ranges ≤ MAX_RANGES)
RangesMean bytes (Err (Syntax k)) = IsFirstNoRange bytes k
RangesMean bytes (Err Limit) = HasTooMany bytes
RangesMean bytes (Err NoMemory) = ⊥

-- a line read from the left: the number before the first blank, and what stands after the blank
abbrev pub number_at : List ℕ → Option (ℕ × List ℕ)
number_at bytes =
    option_and_then (λ cut. option_map (λ n. (n, cut.1)) (number_spelled cut.0)) (first_word bytes)

-- the range of these numbers, if this is a Name
abbrev pub range_with : ℕ → ℕ → ℕ → List ℕ → Option Range
range_with from to level name =
    if is_name name
    then Some (record { from = from; to = to; level = level; name = name }) else None

-- the range that is written so
abbrev pub range_of : List ℕ → Option Range
range_of line = option_and_then (λ a. option_and_then (λ b. option_and_then (λ c.
    range_with a.0 b.0 c.0 c.1) (number_at b.1)) (number_at a.1)) (number_at line)
