use Rattle.std.proofs.Common.{arith}
use Rattle.std.proofs.lemmas.Grind.{common_steps}
use Rattle.pv_reach.proofs.EdgeSweeps.{led_self, number_more}
use Rattle.pv_reach.proofs.graph.sweep.numbers_below.Goals as goal

pub loop-number-preserved : goal.loop-number-preserved
loop-number-preserved c = record {
  long = let i = c.loop-number.invariant.long in let e = c.in_ok-push.ensures.items in grind (arith, common_steps);
  own = number_more c.loop-number.numbers.items c.push.new.self.items c.loop-number.number c.in_ok-push.ensures.items c.loop-number.invariant.long c.loop-number.invariant.own;
}

pub returns-clause-own : goal.returns-clause-own
returns-clause-own c = λ k lt.
    c.loop-number.invariant.own k (let t = c.loop-number-test.false in let a = c.loop-number.auto.number-end in omega arith)

pub returns-clause-led : goal.returns-clause-led
returns-clause-led c = λ edges. led_self edges c.loop-number.numbers.items c.loop-number.number c.loop-number.invariant.long c.loop-number.invariant.own
