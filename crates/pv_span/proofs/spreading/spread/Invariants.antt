use Rattle.std.proofs.Common.{length, map, ◌≡◌}
use Rattle.pv_model.specs.PlainForms.{plain_token}
use Rattle.pv_layout.specs.FormForms.{plain_all}
use Rattle.pv_span.specs.PlainForms.{DiffersInRow, IsAttainedSoFar, plain_chart}
use Rattle.pv_span.specs.Waits.{AreHeld, Waits}
use Rattle.pv_span.proofs.spreading.spread.Given as goal

abbrev pub invariant-loop : goal.invariant-loop
invariant-loop l = record {
  attained : IsAttainedSoFar (plain_all l.forms) (map plain_token l.word) l.chart;
  same : DiffersInRow l.fn.chart l.chart;
  long : length l.waiting.flags.items ≡ length l.fn.waiting.flags.items;
  held : AreHeld (plain_all l.forms) (map plain_token l.word) l.fn.chart.from l.fn.chart.to (Waits l.waiting) (plain_chart l.chart);
}
