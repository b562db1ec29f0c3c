use Rattle.std.proofs.Common.{arith}
use Rattle.pv_reach.proofs.SearchSteps.{on_trail_more}
use Rattle.pv_reach.proofs.graph.leaving.leave_from.Goals as goal

pub loop-visit-smaller : goal.loop-visit-smaller
loop-visit-smaller c =
    let joined = on_trail_more c.args.chains.now c.pop.new.self.items c.in-Some.visit in
    let less = c.in_ok-go_on.ensures in
    rw c.in-Some.ensures.items (omega arith)
