use Rattle.std.proofs.Common.{arith, suc}
use Rattle.pv_span.specs.Charts.{value_of}
use Rattle.pv_span.specs.PlainForms.{plain_chart}
use Rattle.pv_span.proofs.CutSums.{cut_alone}
use Rattle.pv_span.proofs.CutLines.{cut_first}
use Rattle.pv_span.proofs.cuts.least_of_all.Goals as goal

pub returns-then-chart : goal.returns-then-chart
returns-then-chart c =
    let t = c.args.chart.now in
    cut_alone (value_of (plain_chart t)) c.args.one c.args.two t.from t.to c.sum_at_first-first.result c.if-chart.true c.sum_at_first-first.ensures.below c.sum_at_first-first.ensures.attained

pub returns : goal.returns
returns c =
    let t = c.args.chart.now in
    cut_first (value_of (plain_chart t)) c.args.one c.args.two t.from t.to (suc t.to) c.least_behind-behind.result c.sum_at_first-first.result c.min.result
    (let p = t.place.0 in omega arith) c.least_behind-behind.ensures c.sum_at_first-first.ensures.below c.sum_at_first-first.ensures.attained c.min.ensures
