-- Values in columns, and the rows that are read off them.
use Rattle.std.specs.List.{range_with_len}
use Rattle.std.specs.Prelude.{min}
use Rattle.std.proofs.Common.{List, [], ap, arith, get_or-set_other, get_or-set_same, inl, inr, length, map, refl, set, slice_index_or, sym, ℕ, ◌*◌, ◌++◌, ◌+◌, ◌-◌, ◌<◌, ◌∙◌, ◌∷◌, ◌≡◌, ◌≢◌, ◌≤◌}
use Rattle.std.proofs.Math.ListN.{get_or-eq_default}
use Rattle.std.proofs.Math.Nat.{mul-le-mul_right}
use Rattle.std.proofs.lemmas.Bool.{cases_lt}
use Rattle.std.proofs.lemmas.List.FromFn.{fill_by_all, get_or-map-range_with_len, length-map-range_with_len, map-range_with_len_more}
use Rattle.std.proofs.lemmas.Nat.{rows, same_from_place}
use Rattle.pv_productive.specs.Tables.{no_size, size_at}
use Rattle.pv_span.specs.Charts.{AreFew, span_number}
use Rattle.pv_layout.specs.ColumnRules.{cell}
use Rattle.pv_span.specs.DoneSpans.{cells_across, row_of, rows_done}
use Rattle.pv_span.specs.Lines.{done_value}
use Rattle.pv_span.specs.declared.done.DoneSpans.{DoneSpans}
use Rattle.pv_layout.proofs.PutValues.{each_cell}

module _ (cells : List ℕ) (columns spans k : ℕ) where
  abbrev value : ℕ → ℕ
  value x = size_at cells (x * spans + k)

  -- there is no value past the columns
  pub across_past : (x : ℕ) → columns ≤ x → size_at (cells_across cells columns spans k) x ≡ no_size
  across_past x ge = get_or-eq_default (cells_across cells columns spans k) no_size (let n = length-map-range_with_len value 0 columns in omega arith)

  -- the values stand side by side
  pub across_at : (x : ℕ) → length cells ≡ columns * spans → k < spans → size_at (cells_across cells columns spans k) x ≡ value x
  across_at x long lt = elim (cases_lt x columns) [
    | inl l ↦ get_or-map-range_with_len value 0 columns x x no_size l (omega arith)
    | inr ge ↦ (
        let m = mul-le-mul_right spans ge in
        let e : value x ≡ no_size = get_or-eq_default cells no_size (omega arith) in across_past x ge ∙ sym e
        )
  ]

  -- the values that were put in
  pub across_put : (values : List ℕ) → length values ≡ columns → ((x : ℕ) → x < length values → value x ≡ size_at values x) → cells_across cells columns spans k ≡ values
  across_put values e each = sym (fill_by_all value values columns no_size e (λ x l. sym (each x (omega arith))))

  -- the values over another span
  pub across_kept : (old : List ℕ) (span : ℕ) → span < spans → k < spans → k ≢ span → ((c : ℕ) → ((x : ℕ) → c ≢ x * spans + span) → size_at cells c ≡ size_at old c) →
      cells_across cells columns spans k ≡ cells_across old columns spans k
  across_kept old span l m ne kept =
      fill_by_all (λ x. size_at old (x * spans + k)) (cells_across cells columns spans k) columns no_size (length-map-range_with_len value 0 columns)
      (λ x lt. get_or-map-range_with_len value 0 columns x x no_size lt (omega arith) ∙ kept (x * spans + k) (λ y e. ne (same_from_place x k y span spans m l e).1))

-- there is a value of each column over each span
pub place_inside : (columns spans x k : ℕ) → x < columns → k < spans →
    x * spans + k < columns * spans
place_inside columns spans x k l m = grind (arith, rows)

-- one more value of each column
module _ (cells values : List ℕ) (spans span site v : ℕ) (within : span < spans) (long : length cells ≡ length values * spans) (lt : site < length values)
    (e : v ≡ size_at values site) where
  inside : site * spans + span < length cells
  inside = let h : site * spans + span < length values * spans = grind (arith, rows) in omega arith

  pub put_more : ((x : ℕ) → x < site → size_at cells (x * spans + span) ≡ size_at values x) →
      (x : ℕ) → x < site + 1 → size_at (set cells (site * spans + span) v) (x * spans + span) ≡ size_at values x
  put_more before x l = elim (cases_lt x site) [
    | inl less ↦ (
        let ne : x * spans + span ≢ site * spans + span =
        λ f. let h = (same_from_place x span site span spans within within f).0 in absurd (omega arith) in
        get_or-set_other cells (site * spans + span) (x * spans + span) v no_size ne ∙ before x less
        )
    | inr ge ↦ (
        let z : x ≡ site = omega arith in
        rw z (get_or-set_same cells (site * spans + span) v no_size inside ∙ e)
        )
  ]

  pub few_more : AreFew values → AreFew cells → AreFew (set cells (site * spans + span) v)
  few_more few all = each_cell (λ m k. k ≤ no_size) cells (site * spans + span) v inside (let h = few site in omega arith) all

-- one row more, after rows that stay
pub rows_more : (f h : ℕ → List ℕ) (n : ℕ) (row : List ℕ) → ((k : ℕ) → k < n → h k ≡ f k) → h n ≡ row →
    map h (range_with_len 0 (n + 1)) ≡ map f (range_with_len 0 n) ++ (row ∷ [])
rows_more f h n row same e =
    let m = map-range_with_len_more h 0 n n (omega arith) in
    let s : map h (range_with_len 0 n) ≡ map f (range_with_len 0 n) =
    fill_by_all f (map h (range_with_len 0 n)) n row (length-map-range_with_len h 0 n) (λ k l. get_or-map-range_with_len h 0 n k k row l (omega arith) ∙ same k l) in
    rw (m, s, e) refl

-- the values over one span more
pub rows_put : (d : DoneSpans) (cells row : List ℕ) → ((k : ℕ) → k < d.count → cells_across cells d.columns d.spans k ≡ row_of d k) → cells_across cells d.columns d.spans d.count ≡ row →
    map (λ k. cells_across cells d.columns d.spans k) (range_with_len 0 (d.count + 1)) ≡ rows_done d ++ (row ∷ [])
rows_put d cells row same put = rows_more (row_of d) (λ k. cells_across cells d.columns d.spans k) d.count row same put

module _ (d : DoneSpans) where
  pub rows_count : length (rows_done d) ≡ d.count
  rows_count = length-map-range_with_len (row_of d) 0 d.count

  -- the row of a span that is done, and of one that isn't
  pub row_at_done : (k : ℕ) (other : List ℕ) → k < d.count → slice_index_or (rows_done d) k other ≡ row_of d k
  row_at_done k other l = get_or-map-range_with_len (row_of d) 0 d.count k k other l (omega arith)

  pub row_past_done : (k : ℕ) (other : List ℕ) → d.count ≤ k → slice_index_or (rows_done d) k other ≡ other
  row_past_done k other l = get_or-eq_default (rows_done d) other (let n = rows_count in omega arith)

  module _ (n s i j : ℕ) where
    pub done_at : span_number n i j < d.count → done_value n (rows_done d) (cell s i j) ≡ size_at (row_of d (span_number n i j)) s
    done_at l = ap (λ r. size_at r s) (row_at_done (span_number n i j) [] l)

    pub done_past : d.count ≤ span_number n i j → done_value n (rows_done d) (cell s i j) ≡ no_size
    done_past l = ap (λ r. size_at r s) (row_past_done (span_number n i j) [] l)

  -- what is lowered to the sums with a column's values, for each last place
  module _ (n s : ℕ) (old new behind : List ℕ) (place before : ℕ) (within : place ≤ n) (all : span_number n place n < d.count)
      (each : (k : ℕ) → k < min (length old) (n + 1) - place → size_at behind k ≡ size_at (row_of d (span_number n place place + k)) s)
      (lowered : (p : ℕ) → place ≤ p → p < place + length behind → size_at new p ≡ min (size_at old p) (before + size_at behind (p - place)))
      (kept : (p : ℕ) → place + length behind ≤ p → size_at new p ≡ size_at old p)
      (few : (p : ℕ) → place ≤ p → p ≤ n → p < length old → size_at old p ≤ no_size) where
    pub each_lowered : (p : ℕ) → place < p → p ≤ n → p < length old →
        size_at new p ≡ min (size_at old p) (before + done_value n (rows_done d) (cell s place p))
    each_lowered p a b c =
        let z : span_number n place place + (p - place) ≡ span_number n place p = omega arith in
        let u : size_at behind (p - place) ≡ size_at (row_of d (span_number n place p)) s = let v = each (p - place) (omega arith) in rw z at v in
        let e = u ∙ sym (done_at n s place p (omega arith)) in
        elim (cases_lt p (place + length behind)) [
          | inl l ↦ (let f = lowered p (omega arith) l in rw (← e) f)
          | inr ge ↦ (
              let f = kept p ge in let k = few p (omega arith) b c in
              let o : size_at behind (p - place) ≡ no_size = get_or-eq_default behind no_size (omega arith) in
              rw (← e) (omega arith)
              )
        ]
