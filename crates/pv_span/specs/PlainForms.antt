-- The plain form of a chart.
use Rattle.std.specs.Prelude.{List, ◌≡◌}
use Rattle.pv_model.specs.Plain.{PlainToken}
use Rattle.pv_span.specs.Charts.{IsAttainedChart, PlainChart}
use Rattle.pv_span.specs.DoneSpans.{rows_done}
use Rattle.pv_layout.specs.Forms.{PlainForm}
use Rattle.pv_span.specs.declared.charts.Chart.{Chart}

-- the plain form of a chart
abbrev pub plain_chart : Chart → PlainChart
plain_chart t = record { tokens = t.tokens; rows = rows_done t.done; row = t.row.items }

-- only the row at hand may differ
abbrev pub DiffersInRow : Chart → Chart → Type 0
DiffersInRow old new = (new.from ≡ old.from) × (new.to ≡ old.to) × (new.tokens ≡ old.tokens) ×
    (new.done ≡ old.done)

-- the values so far over the span at hand are attained
abbrev pub IsAttainedSoFar : List PlainForm → List PlainToken → Chart → Type 0
IsAttainedSoFar f w t = IsAttainedChart f w t.from t.to (plain_chart t)
