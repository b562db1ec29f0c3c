use Rattle.std.specs.Prelude.{sum}
use Rattle.std.proofs.Common.{map}
use Rattle.pv_model.specs.PlainForms.{plain_token}
use Rattle.pv_span.specs.Charts.{IsAttainedChart}
use Rattle.pv_layout.specs.FormForms.{plain_all}
use Rattle.pv_span.specs.PlainForms.{DiffersInRow, plain_chart}
use Rattle.pv_span.proofs.lowering.settle.Given as goal

abbrev pub invariant-loop : goal.invariant-loop
invariant-loop l = record {
  attained : IsAttainedChart (plain_all l.forms) (map plain_token l.word) l.chart.from l.chart.to (plain_chart l.chart);
  same : DiffersInRow l.fn.chart l.chart;
}

abbrev pub decreases-loop : goal.decreases-loop
decreases-loop l = sum l.chart.row.items
