use Rattle.std.proofs.Common.{arith, suc, ◌+◌, ◌≡◌}
use Rattle.pv_productive.specs.Tables.{no_size}
use Rattle.pv_span.specs.Charts.{value_of}
use Rattle.pv_span.specs.PlainForms.{plain_chart}
use Rattle.pv_span.proofs.CutSums.{cut_more}
use Rattle.pv_span.proofs.CutLines.{none_within}
use Rattle.pv_span.proofs.cuts.least_of_places.Goals as goal

pub returns-then-chart : goal.returns-then-chart
returns-then-chart c =
    let t = c.args.chart.now in
    let e : c.from-least.result ≡ no_size = let f = c.from-least.ensures in omega arith in
    rw e (none_within (value_of (plain_chart t)) c.args.one c.args.two t.from t.to t.to (let f = c.if-chart.true in omega arith))

pub loop-place-preserved : goal.loop-place-preserved
loop-place-preserved c =
    cut_more (value_of (plain_chart c.args.chart.now)) c.args.one c.args.two c.args.chart.now.from c.args.chart.now.to (suc c.args.chart.now.from) c.loop-place.place
    c.loop-place.least c.sum_at.result c.min-least.result c.loop-place.invariant (omega arith) c.sum_at.ensures.below c.sum_at.ensures.attained
    c.min-least.ensures (c.loop-place.place + 1) (omega arith)
