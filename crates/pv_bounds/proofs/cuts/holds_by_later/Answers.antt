use Rattle.std.proofs.Common.{arith, ◌+◌}
use Rattle.pv_bounds.proofs.cuts.holds_by_later.Goals as goal

pub returns-then-holds_by : goal.returns-then-holds_by
returns-then-holds_by c = λ t h.
    let some = c.loop-beyond.auto.beyond in
    let near = c.min-near.ensures in
    let within = c.loop-beyond-test.true in
    c.holds_by.ensures c.if-holds_by.true
    (h (c.args.place + c.loop-beyond.beyond) (omega arith) (omega arith))
