use Rattle.std.proofs.Common.{length, map, suc, ◌-◌, ◌≡◌}
use Rattle.pv_model.specs.PlainForms.{plain_token}
use Rattle.pv_span.specs.Charts.{HasDone, spans_before}
use Rattle.pv_span.specs.DoneSpans.{rows_done}
use Rattle.pv_layout.specs.FormForms.{plain_all}
use Rattle.pv_span.specs.PlainForms.{plain_chart}
use Rattle.pv_span.specs.Repeats.{AreSameTokens}
use Rattle.pv_span.proofs.fill.fill_spans.Given as goal

abbrev pub invariant-spans : goal.invariant-spans
invariant-spans l = record {
  done : HasDone (plain_all l.forms) (map plain_token l.word) (length (rows_done l.chart.done)) (plain_chart l.chart);
  long : length l.waiting.flags.items ≡ length l.forms;
  repeats : AreSameTokens l.word l.repeats;
}

abbrev pub decreases-spans : goal.decreases-spans
decreases-spans l = spans_before (suc l.chart.tokens) - length (rows_done l.chart.done)
