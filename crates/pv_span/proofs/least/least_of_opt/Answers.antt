use Rattle.std.proofs.Common.{arith, refl, ◌∙◌}
use Rattle.pv_span.specs.Charts.{value_of}
use Rattle.pv_span.specs.PlainForms.{plain_chart}
use Rattle.pv_span.proofs.LeastValues.{least_opt, least_opt_none}
use Rattle.pv_span.proofs.least.least_of_opt.Goals as goal

pub returns-then-chart : goal.returns-then-chart
returns-then-chart c = λ f w l e.
    let t = c.args.chart.now in
    least_opt_none f w (value_of (plain_chart t)) c.args.number t.from t.to (t.place.0, l) c.args.one 0 e c.if-chart.true refl

pub returns-else-chart : goal.returns-else-chart
returns-else-chart c = λ f w l e.
    let t = c.args.chart.now in
    least_opt f w (value_of (plain_chart t)) c.args.number t.from t.to (t.place.0, l) c.args.one _ e (let n = c.if-chart.false in let p = t.place.0 in omega arith)
    (c.from.ensures ∙ c.here.ensures)
