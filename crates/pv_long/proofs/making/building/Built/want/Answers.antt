use Rattle.std.proofs.Common.{arith}
use Rattle.pv_long.specs.declared.making.building.Goal.{Goal}
use Rattle.pv_long.proofs.GoalWork.{lower_work, more_work}
use Rattle.pv_long.proofs.making.building.Built.want.Goals as goal

pub returns : goal.returns
returns c =
    let wanted : Goal = record { wanted = c.in-Some.wanted; rank = c.rank.result } in
    let more = more_work c.args.self.now.goals.items wanted in
    let low = lower_work c.rank.result c.args.rank (omega arith) in
    rw c.in_ok-push.ensures.items (omega arith)
