use Rattle.std.proofs.Common.{map, ℕ}
use Rattle.pv_model.specs.PlainForms.{plain_token}
use Rattle.pv_layout.specs.FormForms.{plain_all}
use Rattle.pv_span.specs.PlainForms.{DiffersInRow, IsAttainedSoFar, plain_chart}
use Rattle.pv_span.specs.Waits.{HaveFallen, IsHeld}
use Rattle.pv_span.proofs.WaitingColumns.{StillWaits}
use Rattle.pv_span.proofs.spreading.lower_above.Given as goal

abbrev pub invariant-loop-number : goal.invariant-loop-number
invariant-loop-number l = record {
  attained : IsAttainedSoFar (plain_all l.forms) (map plain_token l.word) l.chart;
  same : DiffersInRow l.fn.chart l.chart;
  fallen : HaveFallen l.fn.waiting l.waiting l.fn.chart.row.items l.chart.row.items;
  held : (s : ℕ) → IsHeld (plain_all l.forms) (map plain_token l.word) l.fn.chart.from l.fn.chart.to (StillWaits l.waiting l.column l.above l.number s) (plain_chart l.chart) s;
}
