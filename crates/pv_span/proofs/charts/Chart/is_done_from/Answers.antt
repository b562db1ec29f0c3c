use Rattle.std.proofs.Common.{arith}
use Rattle.std.proofs.lemmas.Bool.{ltb-true}
use Rattle.pv_span.proofs.charts.Chart.is_done_from.Goals as goal

pub returns : goal.returns
returns c = λ t.
    let s = c.args.self.now in
    let l = ltb-true c.span_number.result s.done.count t in
    let e = c.span_number.ensures in
    (omega arith, omega arith)
