use Rattle.std.proofs.Common.{arith, false, get_or, refl}
use Rattle.pv_rules.specs.PlainForms.{plain_site}
use Rattle.pv_table_check.specs.Lookup.{least_entry}
use Rattle.pv_table_check.proofs.ClosedSites.{all_behind, behind_within, item_contained, no_entry, same_value}
use Rattle.pv_table_check.proofs.sums.behind_holds.Goals as goal

pub returns-then-not-is_within_both : goal.returns-then-not-is_within_both
returns-then-not-is_within_both c =
    let ls = c.args.lefts.now in
    let es = c.args.seconds.now in
    let one = c.args.one.now in
    let found = c.row_of-found.result.now in
    let e = get_or found c.loop-two.two-index no_entry in
    let same = same_value c.listed_or_not_law.ensures ls c.requires.lefts false
    (least_entry c.args.left one.from) c.row_of-row.result.now c.row_of-row.ensures.like
    c.row_of-row.ensures.ascend one.from e.to (λ f. refl) in (
      λ t. absurd cc,
      λ w.
          let within = behind_within c.listed_or_not_law.ensures es c.requires.seconds ls
          c.requires.lefts (plain_site c.args.left) one c.args.inner
          (least_entry c.args.second one.to) refl found c.row_of-found.ensures.like w e
          (item_contained found c.loop-two.two-index no_entry c.loop-two-test.true) in
          let t = c.is_within_both.ensures.1 (λ more. let x = within more in omega (arith, same, x)) in
          let f = c.if-not-is_within_both.true in cc,
    )

pub returns : goal.returns
returns c =
    let ls = c.args.lefts.now in
    let es = c.args.seconds.now in
    let one = c.args.one.now in
    let found = c.row_of-found.result.now in (
      λ t. all_behind c.listed_or_not_law.ensures es c.requires.seconds ls c.requires.lefts
          (plain_site c.args.left) one c.args.inner (least_entry c.args.second one.to) refl found
          c.row_of-found.ensures.like
          (λ k d lt more.
          let h = c.loop-two.invariant k d (let e = c.loop-two-test.false in omega arith) more in
          let same = same_value c.listed_or_not_law.ensures ls c.requires.lefts false
          (least_entry c.args.left one.from) c.row_of-row.result.now c.row_of-row.ensures.like
          c.row_of-row.ensures.ascend one.from (get_or found k d).to (λ f. refl) in
          omega (arith, same, h)),
      λ w. refl,
    )
