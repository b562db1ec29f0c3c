-- The rows of the spans that are done, read off columns.
use Rattle.std.specs.Prelude.{List, map, ℕ, ◌*◌, ◌+◌}
use Rattle.std.specs.List.{range_with_len}
use Rattle.pv_productive.specs.Tables.{size_at}
use Rattle.pv_span.specs.declared.done.DoneSpans.{DoneSpans}

-- the values of so many columns over span number k, where each has so many cells side by side
abbrev pub cells_across : List ℕ → ℕ → ℕ → ℕ → List ℕ
cells_across cells columns spans k =
    map (λ x. size_at cells (x * spans + k)) (range_with_len 0 columns)

-- the values over span number k
abbrev pub row_of : DoneSpans → ℕ → List ℕ
row_of d k = cells_across d.cells.items d.columns d.spans k

-- the rows of the spans that are done
abbrev pub rows_done : DoneSpans → List (List ℕ)
rows_done d = map (row_of d) (range_with_len 0 d.count)
