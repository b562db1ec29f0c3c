use Rattle.std.proofs.Common.{arith, refl, suc}
use Rattle.pv_span.specs.Charts.{value_of}
use Rattle.pv_span.specs.PlainForms.{plain_chart}
use Rattle.pv_span.proofs.CutSums.{cut_more}
use Rattle.pv_span.proofs.cuts.least_behind.Goals as goal

pub returns : goal.returns
returns c =
    let t = c.args.chart.now in
    cut_more (value_of (plain_chart t)) c.args.one c.args.two t.from t.to (suc t.from) t.to c.least_within-within.result c.sum_at_last.result c.min.result
    c.least_within-within.ensures (omega arith) c.sum_at_last.ensures.below c.sum_at_last.ensures.attained c.min.ensures (suc t.to) refl
