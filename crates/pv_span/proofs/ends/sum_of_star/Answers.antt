use Rattle.std.proofs.Common.{arith}
use Rattle.pv_span.specs.Charts.{value_of}
use Rattle.pv_span.specs.PlainForms.{plain_chart}
use Rattle.pv_span.proofs.WholeSpanSums.{sum_star, sum_star_none}
use Rattle.pv_span.proofs.ends.sum_of_star.Goals as goal

pub returns-then-chart : goal.returns-then-chart
returns-then-chart c = λ f w b l e.
    let t = c.args.chart.now in
    sum_star f w (value_of (plain_chart t)) c.args.number t.from t.to (t.place.0, l) c.args.one c.sum_at_last.result b e c.if-chart.true c.sum_at_last.ensures.below c.sum_at_last.ensures.attained

pub returns-else-chart : goal.returns-else-chart
returns-else-chart c = λ f w b l e.
    let t = c.args.chart.now in
    sum_star_none f w (value_of (plain_chart t)) c.args.number t.from t.to (t.place.0, l) c.args.one _ b e (let q = c.if-chart.false in omega arith) (let u = c.from.ensures in omega arith)
