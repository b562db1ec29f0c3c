use Rattle.pv_span.specs.Charts.{value_of}
use Rattle.pv_span.specs.PlainForms.{plain_chart}
use Rattle.pv_span.proofs.WholeSpanSums.{sum_two}
use Rattle.pv_span.proofs.ends.sum_of_two.Goals as goal

pub returns : goal.returns
returns c = λ f w l e.
    let t = c.args.chart.now in
    sum_two f w (value_of (plain_chart t)) c.args.number t.from t.to (t.place.0, l) c.args.one c.args.two c.min.result c.sum_at_first.result c.sum_at_last.result e c.min.ensures
    c.sum_at_first.ensures.below c.sum_at_last.ensures.below c.sum_at_first.ensures.attained c.sum_at_last.ensures.attained
