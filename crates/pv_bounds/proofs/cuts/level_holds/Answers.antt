use Rattle.std.proofs.Common.{arith}
use Rattle.pv_bounds.specs.Fronts.{front_list}
use Rattle.pv_bounds.proofs.LeastCosts.{least_rises}
use Rattle.pv_bounds.proofs.cuts.level_holds.Goals as goal

pub returns-in-Some : goal.returns-in-Some
returns-in-Some c = λ t k e le tells.
    let a = rw c.deref-2.ensures.value at c.in-Some.ensures in
    let b = a k e le tells in
    let w = c.is_within.ensures t in
    let r = least_rises e c.in-Some.end (front_list c.args.ones.now.front) b in omega arith

pub returns-then-end_by : goal.returns-then-end_by
returns-then-end_by c = λ t k e le tells.
    let ones = c.args.ones.now in
    let all = rw c.deref.ensures.value at (c.end_by.ensures c.if-end_by.true) in
    let a = all k e tells in
    let r = least_rises e ones.far (front_list ones.front) a in
    let told = ones.told in
    let q = c.if-from-cost.true in omega arith
