use Rattle.std.proofs.Common.{arith, sym, subst, ◌+◌, ◌≤◌}
use Rattle.pv_bounds.specs.Fronts.{front_list, least_to, shared_reach}
use Rattle.pv_bounds.specs.declared.fronts.Reach.{Reach}
use Rattle.pv_bounds.proofs.LeastCosts.{part_covered}
use Rattle.pv_bounds.proofs.LevelCuts.{first_one_more}
use Rattle.pv_bounds.proofs.covers.covers.Goals as goal

pub loop-index-preserved : goal.loop-index-preserved
loop-index-preserved c =
    let none : Reach = shared_reach 0 0 in
    let ones = front_list c.args.ones.now in
    let others = front_list c.args.others.now in
    let within = c.apart_from-apart.ensures.within in
    first_one_more (λ (r : Reach). least_to r.end ones ≤ c.args.extra + r.cost) others
    c.loop-index.index none (let t = c.loop-index-test.true in omega arith) c.loop-index.invariant
    (subst (λ (r : Reach). least_to r.end ones ≤ c.args.extra + r.cost)
    (sym (c.get-other.ensures none)) (c.is_within.ensures c.if-not-is_within.false))

pub returns : goal.returns
returns c = λ t j.
    part_covered (front_list c.args.ones.now) (front_list c.args.others.now) c.args.extra
    c.apart_from-apart.result
    (λ m d lt w. c.loop-index.invariant m d (let e = c.loop-index-test.false in omega arith)) j
    (c.apart_from-apart.ensures.rest j)
