use Rattle.std.proofs.Common.{arith}
use Rattle.pv_bounds.specs.Fronts.{front_list}
use Rattle.pv_bounds.proofs.LeastCosts.{part_after}
use Rattle.pv_bounds.proofs.covers.covers_after.Goals as goal

pub returns : goal.returns
returns c = λ t k after.
    part_after (front_list c.args.ones.now) (front_list c.args.others.now) c.args.extra
    c.args.place c.apart_after-apart.result
    (λ m d lt w past. c.loop-index.invariant m d
    (let e = c.loop-index-test.false in omega arith) past) k after
    (c.apart_after-apart.ensures.rest k)
