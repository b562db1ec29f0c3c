use Rattle.std.proofs.Common.{arith}
use Rattle.pv_long.proofs.GoalWork.{more_work}
use Rattle.pv_long.proofs.making.building.pieces_of.Goals as goal

pub loop-goal-smaller : goal.loop-goal-smaller
loop-goal-smaller c =
    let more = more_work c.pop.new.self.items c.in-Some.goal in
    let less = c.in_ok-put.ensures in
    rw c.in-Some.ensures.items (omega arith)
