use Rattle.std.proofs.Common.{arith, ◌-◌}
use Rattle.pv_bounds.proofs.ChangedLevels.{window_more}
use Rattle.pv_bounds.proofs.cuts.tell_from.Goals as goal

pub loop-next-preserved : goal.loop-next-preserved
loop-next-preserved c =
    let i = c.loop-next.invariant in
    let p = c.loop-next.next in
    let claim = c.args.claim.now in
    let some = c.loop-next-test.true in record {
      falling = c.in_ok-tell_all.ensures.falling;
      window = window_more claim.fronts.now c.args.column (p - 1) p claim.tokens
          c.loop-next.levels.items c.tell_all.new.levels.items i.window (omega arith)
          c.in_ok-tell_all.ensures.kept (rw c.at.ensures.reaches at c.in_ok-tell_all.ensures.told);
    }

pub returns-clause-window : goal.returns-clause-window
returns-clause-window c = λ k le lt.
    c.loop-next.invariant.window k (let e = c.loop-next-test.false in omega arith) lt
