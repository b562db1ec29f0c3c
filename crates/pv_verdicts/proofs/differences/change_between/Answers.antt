use Rattle.std.proofs.Common.{◌-◌, ◌+◌, length}
use Rattle.pv_verdicts.proofs.ListDifferences.{ends_behind, put_back, same_back}
use Rattle.pv_verdicts.proofs.differences.change_between.Goals as goal

pub returns-clause-before : goal.returns-clause-before
returns-clause-before c =
    let xs = c.args.before.now in
    let ys = c.args.after.now in
    let f = c.common_front-from.result in
    let k = c.common_back-back.result in
    let front = c.common_front-from.ensures in
    let back = c.common_back-back.ensures in
    let same = same_back xs ys f k front.before front.after back.before back.after back.same in
    put_back xs ys f (length xs - k) (f + (length ys - k - f))
    (ends_behind xs f k front.before back.before) front.same same
