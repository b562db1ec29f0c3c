use Rattle.std.proofs.Common.{arith, false, get_or, length, sym, ◌<◌, ◌≡◌}
use Rattle.pv_reach.specs.declared.graph.leaving.Visit.{Visit}
use Rattle.pv_reach.proofs.SearchSteps.{entered_more, numbers_most, on_trail_more}
use Rattle.pv_reach.proofs.graph.leaving.Visits.enter.Goals as goal

pub returns : goal.returns
returns c =
    let old = c.args.self.now in let chains = c.args.chains.now in
    let visit : Visit = record { column = c.args.column; next = c.first.result } in
    let joined = on_trail_more chains old.trail.items visit in
    let most = numbers_most chains c.first.result in
    let within : c.args.column < length old.entered.items = omega
    (arith, c.if-column-len.false, c.len.ensures, old.entered.ok) in
    let free : get_or old.entered.items c.args.column false ≡
    false = sym (rw c.if-index.false at c.index.ensures) in
    let entered = entered_more chains old.entered.items c.args.column within free in
    rw c.in_ok-push.ensures.items (omega arith)
