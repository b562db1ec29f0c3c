use Rattle.std.proofs.Common.{arith, get_or, refl, true, ℕ}
use Rattle.pv_rules.specs.PlainForms.{plain_site}
use Rattle.pv_table_check.specs.Lookup.{least_entry}
use Rattle.pv_table_check.proofs.ClosedSites.{behind_as, no_entry, own_order, same_value}
use Rattle.pv_table_check.proofs.sums.listed_sums_hold.Goals as goal

pub first_holds-requires-clause-lefts : goal.first_holds-requires-clause-lefts
first_holds-requires-clause-lefts c = own_order c.listed_or_not_law.ensures c.args.entries.now
    c.requires true (least_entry c.args.pair.now.left 0) c.entries_of-lefts.result.now
    c.entries_of-lefts.ensures.like c.entries_of-lefts.ensures.ascend

pub first_holds-requires-clause-seconds : goal.first_holds-requires-clause-seconds
first_holds-requires-clause-seconds c = own_order c.listed_or_not_law.ensures c.args.entries.now
    c.requires true (least_entry c.args.pair.now.second 0) c.entries_of-seconds.result.now
    c.entries_of-seconds.ensures.like c.entries_of-seconds.ensures.ascend

pub returns-then-not-first_holds : goal.returns-then-not-first_holds
returns-then-not-first_holds c =
    let es = c.args.entries.now in
    let p = c.args.pair.now in
    let e = get_or c.args.firsts.now c.loop-one.one-index no_entry in
    let lefts = λ (i j : ℕ). same_value c.listed_or_not_law.ensures es c.requires true
    (least_entry p.left 0) c.entries_of-lefts.result.now c.entries_of-lefts.ensures.like
    c.entries_of-lefts.ensures.ascend i j (λ f. absurd cc) in
    let seconds = λ (i j : ℕ). same_value c.listed_or_not_law.ensures es c.requires true
    (least_entry p.second 0) c.entries_of-seconds.result.now c.entries_of-seconds.ensures.like
    c.entries_of-seconds.ensures.ascend i j (λ f. absurd cc) in
    let both = behind_as c.entries_of-lefts.result.now c.entries_of-seconds.result.now es (plain_site p.left) (plain_site p.second) lefts seconds e.from e.to e.value p.inner in (
      λ t. absurd cc,
      λ w.
          let within = w c.loop-one.one-index no_entry c.loop-one-test.true in
          let t = c.first_holds.ensures.1 (λ o. both.1 (within o)) in
          let f = c.if-not-first_holds.true in cc,
    )

pub returns : goal.returns
returns c =
    let es = c.args.entries.now in
    let p = c.args.pair.now in
    let lefts = λ (i j : ℕ). same_value c.listed_or_not_law.ensures es c.requires true
    (least_entry p.left 0) c.entries_of-lefts.result.now c.entries_of-lefts.ensures.like
    c.entries_of-lefts.ensures.ascend i j (λ f. absurd cc) in
    let seconds = λ (i j : ℕ). same_value c.listed_or_not_law.ensures es c.requires true
    (least_entry p.second 0) c.entries_of-seconds.result.now c.entries_of-seconds.ensures.like
    c.entries_of-seconds.ensures.ascend i j (λ f. absurd cc) in (
      λ t k d lt o.
          let e = get_or c.args.firsts.now k d in
          let both = behind_as c.entries_of-lefts.result.now c.entries_of-seconds.result.now es (plain_site p.left) (plain_site p.second) lefts seconds e.from e.to e.value p.inner in
          both.0 (c.loop-one.invariant k d (let z = c.loop-one-test.false in omega arith) o),
      λ w. refl,
    )
