-- A chart: the values of all columns over the spans of a word, a row for each span. The rows come
-- in the order in which spans are done: the spans from the last place first, and of those from one
-- place the shorter ones first. A value is no_size where no derivation is known, and else the
-- weight of one, cut.
use Rattle.std.specs.Prelude.{Bool, List, false, length, min, slice_index_or, suc, sum, true, zero}
use Rattle.std.specs.Prelude.{ℕ, ◌+◌, ◌-◌, ◌<◌, ◌≡◌, ◌≤◌}
use Rattle.pv_model.specs.Plain.{PlainToken}
use Rattle.pv_rules.specs.Derivations.{Derives, heaviest, sum_of}
use Rattle.pv_rules.specs.Rules.{IsSpan}
use Rattle.pv_productive.specs.Tables.{capped, no_size, size_at}
use Rattle.pv_layout.specs.ColumnRules.{Cell, ColumnRule, cell}
use Rattle.pv_layout.specs.Forms.{PlainForm}

-- the rows of the spans that are done, and that of the span at hand
pub record PlainChart : Type 0 where
  pub tokens : ℕ
  pub rows : List (List ℕ)
  pub row : List ℕ

-- how many spans there are from the last k places
abbrev pub spans_before : ℕ → ℕ
spans_before zero = 0
spans_before (suc k) = spans_before k + suc k

-- the number of a span of a word of n tokens
abbrev pub span_number : ℕ → ℕ → ℕ → ℕ
span_number n i j = spans_before (n - i) + (j - i)

-- the row of span number k: one that is done, or the one at hand
abbrev pub row_of_span : PlainChart → ℕ → List ℕ
row_of_span t k = slice_index_or t.rows k t.row

-- the value of a column over a span
abbrev pub value_of : PlainChart → Cell → ℕ
value_of t x = size_at (row_of_span t (span_number t.tokens x.from x.to)) x.column

-- no value is more than that of no derivation
abbrev pub AreFew : List ℕ → Type 0
AreFew values = (k : ℕ) → size_at values k ≤ no_size

-- k is the value of no derivation, or the weight of one, cut
abbrev pub HasValue : List PlainForm → List PlainToken → Cell → ℕ → Type 0
HasValue f w x k = (k ≤ no_size) × (k < no_size →
    (n : ℕ) × Derives (ColumnRule f w) n x × (k ≡ min heaviest n))

-- the rules of this cell lower nothing
abbrev pub IsSettledAt : List PlainForm → List PlainToken → PlainChart → Cell → Type 0
IsSettledAt f w t x = (c : ℕ) (xs : List Cell) → ColumnRule f w x c xs →
    value_of t x ≤ capped (c + sum_of (value_of t) xs)

-- the span is done
abbrev pub IsDone : List PlainToken → PlainChart → ℕ → ℕ → Type 0
IsDone w t i j = IsSpan w i j × (span_number t.tokens i j < length t.rows)

-- the values over the spans that are done are attained, and the rules lower none
pub record IsSoundChart (f : List PlainForm) (w : List PlainToken) (t : PlainChart) : Type 0 where
  pub long : t.tokens ≡ length w
  pub attained : (s i j : ℕ) → IsDone w t i j → HasValue f w (cell s i j) (value_of t (cell s i j))
  pub settled : (s i j : ℕ) → IsDone w t i j → IsSettledAt f w t (cell s i j)

-- besides, the span at hand is the next one, and its values so far are attained
pub record IsAttainedChart (f : List PlainForm) (w : List PlainToken) (i j : ℕ) (t : PlainChart) :
    Type 0 where
  pub sound : IsSoundChart f w t
  pub span : IsSpan w i j
  pub next : span_number t.tokens i j ≡ length t.rows
  pub is_row : length t.row ≡ length f
  pub attained : (s : ℕ) → HasValue f w (cell s i j) (size_at t.row s)

-- The new chart is attained and differs in the row at hand alone. Where nothing changed it is the
-- old one, of which P holds, and else the values of the row are less in all.
pub record IsSettling (f : List PlainForm) (w : List PlainToken) (i j : ℕ)
    (P : PlainChart → Type 0) (old new : PlainChart) (changed : Bool) : Type 0 where
  pub attained : IsAttainedChart f w i j new
  pub same : changed ≡ false → new ≡ old
  pub settled : changed ≡ false → P old
  pub less : changed ≡ true → sum new.row < sum old.row

-- the rules lower nothing in these columns
abbrev pub AreSettled : List PlainForm → List PlainToken → ℕ → ℕ → ℕ → PlainChart → Type 0
AreSettled f w i j end t = (s : ℕ) → s < end → IsSettledAt f w t (cell s i j)

-- the rules lower nothing in the columns from one number up to another
abbrev pub AreSettledFrom : List PlainForm → List PlainToken → ℕ → ℕ → ℕ → ℕ → PlainChart → Type 0
AreSettledFrom f w i j first end t = (s : ℕ) → first ≤ s → s < end → IsSettledAt f w t (cell s i j)

-- k spans are done, and nothing is known of the next one
pub record HasDone (f : List PlainForm) (w : List PlainToken) (k : ℕ) (t : PlainChart) :
    Type 0 where
  pub sound : IsSoundChart f w t
  pub count : length t.rows ≡ k
  pub is_row : length t.row ≡ length f
  pub blank : (s : ℕ) → size_at t.row s ≡ no_size

-- all spans are done
pub record IsFilled (f : List PlainForm) (w : List PlainToken) (t : PlainChart) : Type 0 where
  pub sound : IsSoundChart f w t
  pub all : (i j : ℕ) → IsSpan w i j → span_number t.tokens i j < length t.rows
