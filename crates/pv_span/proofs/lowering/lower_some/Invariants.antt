use Rattle.std.proofs.Common.{map}
use Rattle.pv_model.specs.PlainForms.{plain_token}
use Rattle.pv_span.specs.Charts.{AreSettledFrom, IsSettling}
use Rattle.pv_layout.specs.FormForms.{plain_all}
use Rattle.pv_span.specs.PlainForms.{DiffersInRow, plain_chart}
use Rattle.pv_span.proofs.lowering.lower_some.Given as goal

abbrev pub invariant-loop-number : goal.invariant-loop-number
invariant-loop-number l = record {
  settling : IsSettling (plain_all l.forms) (map plain_token l.word) l.fn.chart.from l.fn.chart.to
      (AreSettledFrom (plain_all l.forms) (map plain_token l.word) l.fn.chart.from l.fn.chart.to l.first l.number) (plain_chart l.fn.chart) (plain_chart l.chart) l.changed;
  same : DiffersInRow l.fn.chart l.chart;
}
