-- Lines: for two columns, one after the other, the least sums over the spans from one place, of
-- the cuts before the span at hand.
use Rattle.std.specs.Prelude.{List, Some, [], length, min, slice_get, slice_index_or, suc, zero, ℕ}
use Rattle.std.specs.Prelude.{◌+◌, ◌-◌, ◌<◌, ◌≡◌, ◌≤◌}
use Rattle.pv_productive.specs.Tables.{no_size, size_at}
use Rattle.pv_span.specs.Charts.{span_number}
use Rattle.pv_layout.specs.ColumnRules.{Cell, cell}
use Rattle.pv_span.specs.declared.lines.Line.{Line}

-- the values over the spans that are done, of a word of n tokens
abbrev pub done_value : ℕ → List (List ℕ) → Cell → ℕ
done_value n rows x = size_at (slice_index_or rows (span_number n x.from x.to) []) x.column

-- the least sum of two values where a span is cut at one of so many places after its first
abbrev pub least_cut : (Cell → ℕ) → ℕ → ℕ → ℕ → ℕ → ℕ → ℕ
least_cut t one two i j zero = no_size
least_cut t one two i j (suc k) = min (least_cut t one two i j k)
    (t (cell one i (i + suc k)) + t (cell two (i + suc k) j))

-- for each span from place i up to j or a later place, the least sum of the cuts after i and
-- before j
abbrev pub IsLine : ℕ → List (List ℕ) → ℕ → ℕ → Line → Type 0
IsLine n rows i j l = (p : ℕ) → j ≤ p → p ≤ n → p < length l.least.items →
    size_at l.least.items p ≡ least_cut (done_value n rows) l.one l.two i p (j - suc i)

abbrev pub AreSpanLines : ℕ → List (List ℕ) → ℕ → ℕ → List Line → Type 0
AreSpanLines n rows i j lines = (k : ℕ) (l : Line) → slice_get lines k ≡ Some l →
    IsLine n rows i j l

-- nothing is known on the line
abbrev pub IsBlankLine : Line → Type 0
IsBlankLine l = (p : ℕ) → p < length l.least.items → size_at l.least.items p ≡ no_size

abbrev pub AreBlank : List Line → Type 0
AreBlank lines = (k : ℕ) (l : Line) → slice_get lines k ≡ Some l → IsBlankLine l
