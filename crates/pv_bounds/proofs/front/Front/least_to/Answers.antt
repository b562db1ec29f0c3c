use Rattle.std.proofs.Common.{arith}
use Rattle.pv_bounds.proofs.LeastCosts.{least_light}
use Rattle.pv_bounds.proofs.SharedEnds.{front_least, near_least}
use Rattle.pv_bounds.proofs.front.Front.least_to.Goals as goal

pub least_shared-requires : goal.least_shared-requires
least_shared-requires c =
    let l = least_light c.args.place c.args.self.now.near.now in let e = c.least_to-least.ensures in
    omega arith

pub returns-then-least-self : goal.returns-then-least-self
returns-then-least-self c =
    let e = c.least_to-least.ensures in
    let q = c.if-least-self.true in
    let n = near_least c.args.self.now c.args.self.now.within c.args.place (omega arith) in
    omega arith

pub returns-else-least-self : goal.returns-else-least-self
returns-else-least-self c =
    let e = c.least_to-least.ensures in
    let s = c.least_shared.ensures in
    let n = front_least c.args.self.now c.args.self.now.within c.args.place in omega arith
