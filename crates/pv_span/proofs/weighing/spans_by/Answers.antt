use Rattle.std.proofs.Common.{refl}
use Rattle.pv_span.proofs.WordWeights.{chart_tells, chart_weighs}
use Rattle.pv_span.proofs.weighing.spans_by.Goals as goal

pub returns-clause-weights : goal.returns-clause-weights
returns-clause-weights c = chart_weighs c.args.layout.now c.args.word.now c.in_ok-chart.chart _ refl c.requires.fits (rw c.deref.ensures.value at c.in_ok-chart.ensures)

pub returns-clause-values : goal.returns-clause-values
returns-clause-values c = chart_tells c.args.layout.now c.args.word.now c.in_ok-chart.chart _ refl c.requires.fits (rw c.deref.ensures.value at c.in_ok-chart.ensures)

pub chart_of-requires-clause-told : goal.chart_of-requires-clause-told
chart_of-requires-clause-told c = rw c.deref.ensures.value c.args.layout.now.told
