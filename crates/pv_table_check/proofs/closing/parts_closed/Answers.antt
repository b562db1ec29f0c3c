use Rattle.std.proofs.Common.{arith, below_more, refl}
use Rattle.pv_table_check.proofs.closing.parts_closed.Goals as goal

pub returns-then-not-part_closed : goal.returns-then-not-part_closed
returns-then-not-part_closed c = (
  λ t. absurd cc,
  λ h. let t = c.part_closed.ensures.1 (h c.loop-number.number (let lt = c.loop-number-test.true in omega arith)).0 in let f = c.if-not-part_closed.true in cc,
)

pub returns-then-not-rest_closed : goal.returns-then-not-rest_closed
returns-then-not-rest_closed c = (
  λ t. absurd cc,
  λ h. let t = c.rest_closed.ensures.1 (h c.loop-number.number (let lt = c.loop-number-test.true in omega arith)).1 in let f = c.if-not-rest_closed.true in cc,
)

pub loop-number-preserved : goal.loop-number-preserved
loop-number-preserved c = below_more _ _ c.loop-number.invariant (c.part_closed.ensures.0 c.if-not-part_closed.false, c.rest_closed.ensures.0 c.if-not-rest_closed.false)

pub returns : goal.returns
returns c = (λ t q lt. c.loop-number.invariant q (let z = c.loop-number-test.false in omega arith), λ h. refl)
