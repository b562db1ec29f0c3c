use Rattle.std.proofs.Common.{arith}
use Rattle.pv_reach.specs.declared.graph.leaving.Visit.{Visit}
use Rattle.pv_reach.proofs.SearchSteps.{numbers_next, on_trail_more}
use Rattle.pv_reach.proofs.graph.leaving.Visits.go_on.Goals as goal

pub returns-then-number-edges : goal.returns-then-number-edges
returns-then-number-edges c =
    let visit : Visit = record { column = c.args.visit.column; next = c.next.result } in
    let joined = on_trail_more c.args.chains.now c.args.self.now.trail.items visit in
    let nearer = numbers_next c.args.chains.now c.in-Some.number c.next.result c.next.ensures in
    rw (c.in_ok-push-2.ensures.items, c.in-Some.is) (omega arith)

pub returns : goal.returns
returns c =
    let visit : Visit = record { column = c.args.visit.column; next = c.next.result } in
    let joined = on_trail_more c.args.chains.now c.args.self.now.trail.items visit in
    let nearer = numbers_next c.args.chains.now c.in-Some.number c.next.result c.next.ensures in
    let entered = rw c.in_ok-push-2.ensures.items at c.in_ok-enter.ensures in
    rw c.in-Some.is (omega arith)
