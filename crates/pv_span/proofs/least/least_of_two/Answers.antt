use Rattle.pv_span.specs.Charts.{value_of}
use Rattle.pv_span.specs.PlainForms.{plain_chart}
use Rattle.pv_span.proofs.LeastValues.{least_two}
use Rattle.pv_span.proofs.least.least_of_two.Goals as goal

pub returns : goal.returns
returns c = λ f w l e.
    let t = c.args.chart.now in
    least_two f w (value_of (plain_chart t)) c.args.number t.from t.to (t.place.0, l) c.args.one c.args.two c.least_of_all.result e c.least_of_all.ensures
