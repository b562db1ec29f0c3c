use Rattle.std.proofs.Common.{arith, add-one}
use Rattle.pv_rematch.proofs.LeadingPoints.{span_more}
use Rattle.pv_rematch.proofs.points.point_behind.Goals as goal

pub returns-then-gap-left-clause-place : goal.returns-then-gap-left-clause-place
returns-then-gap-left-clause-place c = λ lt.
    rw add-one (let more =
    span_more c.args.points.now c.loop-number.number c.index-points-number.result lt in
    omega (arith, more, c.loop-number.invariant, c.if-gap-left.true))

pub loop-number-preserved : goal.loop-number-preserved
loop-number-preserved c =
    rw add-one (let more =
    span_more c.args.points.now c.loop-number.number c.index-points-number.result
    c.loop-number-test.true in
    omega (arith, more, c.loop-number.invariant, c.if-gap-left.false))
