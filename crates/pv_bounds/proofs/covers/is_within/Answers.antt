use Rattle.std.proofs.Common.{ap, arith}
use Rattle.pv_bounds.specs.Fronts.{front_list, shared_reach}
use Rattle.pv_bounds.specs.declared.fronts.Reach.{Reach}
use Rattle.pv_bounds.proofs.LeastCosts.{least_below, least_light}
use Rattle.pv_bounds.proofs.covers.is_within.Goals as goal

pub returns-then-most-from : goal.returns-then-most-from
returns-then-most-from c = λ t.
    let l = least_light c.args.end (front_list c.args.ones.now) in
    let q = c.if-most-from.true in omega arith

pub returns : goal.returns
returns c = λ t.
    let none : Reach = shared_reach 0 0 in
    let within = c.if-last-len.false in
    let far = c.if-one-end.false in
    let cheap = c.if-from-most.false in
    let e = c.get-one.ensures none in
    let p = ap (λ (r : Reach). r.end) e in
    let q = ap (λ (r : Reach). r.cost) e in
    let b = least_below c.args.end (front_list c.args.ones.now) c.last_by-last.result none
    (omega arith) (omega arith) in omega arith
