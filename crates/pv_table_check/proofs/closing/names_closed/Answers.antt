use Rattle.std.proofs.Common.{arith, below_more, refl}
use Rattle.pv_table_check.proofs.closing.names_closed.Goals as goal

pub returns-then-not-one_holds : goal.returns-then-not-one_holds
returns-then-not-one_holds c = (
  λ t. absurd cc,
  λ h. let t = c.one_holds.ensures.1 (h c.loop-name.name (let lt = c.loop-name-test.true in omega arith)).0 in let f = c.if-not-one_holds.true in cc,
)

pub returns-then-not-content_closed : goal.returns-then-not-content_closed
returns-then-not-content_closed c = (
  λ t. absurd cc,
  λ h. let t = c.content_closed.ensures.1 (h c.loop-name.name (let lt = c.loop-name-test.true in omega arith)).1 in let f = c.if-not-content_closed.true in cc,
)

pub loop-name-preserved : goal.loop-name-preserved
loop-name-preserved c = below_more _ _ c.loop-name.invariant (c.one_holds.ensures.0 c.if-not-one_holds.false, c.content_closed.ensures.0 c.if-not-content_closed.false)

pub returns : goal.returns
returns c = (λ t x lt. c.loop-name.invariant x (let z = c.loop-name-test.false in omega arith), λ h. refl)
