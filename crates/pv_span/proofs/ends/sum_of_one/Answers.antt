use Rattle.std.proofs.Common.{◌∙◌}
use Rattle.pv_span.specs.Charts.{value_of}
use Rattle.pv_span.specs.PlainForms.{plain_chart}
use Rattle.pv_span.proofs.WholeSpanSums.{sum_opt, sum_plus}
use Rattle.pv_span.proofs.ends.sum_of_one.Goals as goal

pub returns-clause-opt : goal.returns-clause-opt
returns-clause-opt c = λ f w l e.
    let t = c.args.chart.now in
    sum_opt f w (value_of (plain_chart t)) c.args.number t.from t.to (t.place.0, l) c.args.one _ e (c.from.ensures ∙ c.here.ensures)

pub returns-clause-plus : goal.returns-clause-plus
returns-clause-plus c = λ f w l e.
    let t = c.args.chart.now in
    sum_plus f w (value_of (plain_chart t)) c.args.number t.from t.to (t.place.0, l) c.args.one _ e (c.from.ensures ∙ c.here.ensures)
