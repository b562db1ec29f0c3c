use Rattle.std.proofs.Common.{arith}
use Rattle.pv_long.proofs.GoalWork.{some_work}
use Rattle.pv_long.proofs.making.building.Built.put.Goals as goal

pub returns-then-has_first : goal.returns-then-has_first
returns-then-has_first c =
    let some = some_work c.args.rank in
    let second = c.in_ok-has_second.ensures in
    let first = c.in_ok-has_first.ensures in
    omega arith

pub returns-else-has_first : goal.returns-else-has_first
returns-else-has_first c =
    let some = some_work c.args.rank in
    let second = c.in_ok-has_second.ensures in
    let first = c.in_ok-has_first.ensures in
    omega arith
