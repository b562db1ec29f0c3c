use Rattle.std.proofs.Common.{arith, add-one, ap}
use Rattle.pv_rematch.specs.declared.points.Point.{Point}
use Rattle.pv_rematch.proofs.LeadingPoints.{span_more}
use Rattle.pv_rematch.proofs.points.points_before.Goals as goal

pub loop-count-preserved : goal.loop-count-preserved
loop-count-preserved c =
    let x = c.index-points-count.result in
    let more = span_more c.args.points.now c.loop-count.count x c.loop-count-test.true in
    let gap = ap (λ (r : Point). r.gap) c.index-points-count.is in
    rw add-one (
      omega (arith, more, gap, c.loop-count.invariant.0),
      omega (arith, c.loop-count.invariant.1, c.if-point-from.false),
    )
