use Rattle.std.proofs.Common.{arith}
use Rattle.pv_span.specs.Charts.{value_of}
use Rattle.pv_span.specs.PlainForms.{plain_chart}
use Rattle.pv_span.proofs.LeastValues.{least_plus}
use Rattle.pv_span.proofs.least.least_of_plus.Goals as goal

pub returns : goal.returns
returns c = λ f w l e.
    let t = c.args.chart.now in
    least_plus f w (value_of (plain_chart t)) c.args.number t.from t.to (t.place.0, l) c.args.one c.min.result c.least_within.result e c.least_within.ensures
    (let a = c.from-alone.ensures in let b = c.here.ensures in let m = c.min.ensures in omega arith)
