use Rattle.pv_bounds.specs.declared.fronts.Reach.{Reach}
use Rattle.std.proofs.Common.{ap, arith}
use Rattle.pv_bounds.proofs.SharedEnds.{first_counted, none_counted, shared, shared_at}
use Rattle.pv_bounds.proofs.SharedEnds.{shared_length}
use Rattle.pv_bounds.proofs.front.Front.least_shared.Goals as goal

pub returns-then-reach-place : goal.returns-then-reach-place
returns-then-reach-place c =
    let f = c.args.self.now in
    let m = c.loop-number.number in
    let n = c.shared_ends-number-end.ensures in
    let within = c.loop-number-test.true in
    let l = shared_length f f.within in
    let at = shared_at f f.within m (omega arith) in
    let cost = ap (λ (r : Reach). r.cost) c.shared-reach.ensures in
    let end = ap (λ (r : Reach). r.end) c.shared-reach.ensures in
    let far = c.if-reach-place.true in
    let e = first_counted c.args.place f.cost m (shared f f.within) (omega arith)
    (λ k lt. let a = shared_at f f.within k (omega arith) in
    let b = c.loop-number.invariant k lt in omega arith) (omega arith) in
    let least = c.min.ensures in
    let light = c.requires in omega arith

pub returns : goal.returns
returns c =
    let f = c.args.self.now in
    let n = c.shared_ends-number-end.ensures in
    let past = c.loop-number-test.false in
    let l = shared_length f f.within in
    let e = none_counted c.args.place f.cost (shared f f.within)
    (λ k lt. let a = shared_at f f.within k (omega arith) in
    let b = c.loop-number.invariant k (omega arith) in omega arith) in
    let light = c.requires in omega arith
