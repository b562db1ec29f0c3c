use Rattle.std.proofs.Common.{arith, get_or, refl}
use Rattle.pv_table_check.proofs.ClosedSites.{item_contained, no_entry}
use Rattle.pv_table_check.proofs.sums.laid_sums_hold.Goals as goal

pub laid_sum_holds-requires-clause-span : goal.laid_sum_holds-requires-clause-span
laid_sum_holds-requires-clause-span c =
    c.requires.over.span (get_or c.args.firsts.now c.loop-one.one-index no_entry) (c.requires.firsts
    (get_or c.args.firsts.now c.loop-one.one-index no_entry) (item_contained c.args.firsts.now
    c.loop-one.one-index no_entry c.loop-one-test.true))

pub returns-then-not-laid_sum_holds : goal.returns-then-not-laid_sum_holds
returns-then-not-laid_sum_holds c = (
  λ t. absurd cc,
  λ w. let t = c.laid_sum_holds.ensures.1 (w c.loop-one.one-index no_entry c.loop-one-test.true) in let f = c.if-not-laid_sum_holds.true in cc,
)

pub returns : goal.returns
returns c = (
  λ t k d lt. c.loop-one.invariant k d (let z = c.loop-one-test.false in omega arith),
  λ w. refl,
)
