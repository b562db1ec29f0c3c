use Rattle.std.proofs.Common.{arith, length, ◌<◌, ◌^◌, ◌≤◌}
use Rattle.pv_long.proofs.RoomPast.{less_room}
use Rattle.pv_long.proofs.making.ends.Ends.extend.Goals as goal

pub returns-then-index-end-clause-further : goal.returns-then-index-end-clause-further
returns-then-index-end-clause-further c = λ _.
    let ends = c.args.self.now.ends in
    let within : c.args.column < length ends.items = omega
    (arith, c.if-place-len.true, c.len.ensures, ends.ok) in
    let top : c.args.end ≤ 2 ^ 32 = omega (arith, c.ranges.end.fits) in
    less_room ends.items c.args.column c.args.end c.index.result.now within c.index.ensures
    c.if-index-end.true top

pub returns-then-index-end-clause-kept : goal.returns-then-index-end-clause-kept
returns-then-index-end-clause-kept c =
    let ends = c.args.self.now.ends in
    let within : c.args.column < length ends.items = omega
    (arith, c.if-place-len.true, c.len.ensures, ends.ok) in
    let top : c.args.end ≤ 2 ^ 32 = omega (arith, c.ranges.end.fits) in
    let less = less_room ends.items c.args.column c.args.end c.index.result.now within
    c.index.ensures c.if-index-end.true top in
    omega (arith, less)
