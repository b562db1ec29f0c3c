use Rattle.std.proofs.Common.{arith}
use Rattle.pv_span.specs.Charts.{value_of}
use Rattle.pv_span.specs.PlainForms.{plain_chart}
use Rattle.pv_span.proofs.WholeSpanSums.{sum_missing}
use Rattle.pv_span.proofs.ends.sum_of_missing.Goals as goal

pub returns : goal.returns
returns c = λ f w l e.
    let t = c.args.chart.now in
    sum_missing f w (value_of (plain_chart t)) c.args.number t.from t.to (t.place.0, l) c.args.id.0 c.args.content _ e (let u = c.from.ensures in let v = c.here.ensures in omega arith)
