use Rattle.std.proofs.Common.{arith, get_or, refl, true}
use Rattle.pv_rules.specs.PlainForms.{plain_site}
use Rattle.pv_table_check.specs.Lookup.{least_entry}
use Rattle.pv_table_check.proofs.ClosedSites.{all_one, item_contained, no_entry, one_within, same_value}
use Rattle.pv_table_check.proofs.forms.one_holds.Goals as goal

pub returns-then-not-is_within : goal.returns-then-not-is_within
returns-then-not-is_within c =
    let es = c.args.entries.now in
    let found = c.entries_of-found.result.now in
    let e = get_or found c.loop-place.place no_entry in
    let same = same_value c.listed_or_not_law.ensures es c.requires true (least_entry c.args.left 0)
    c.entries_of-lefts.result.now c.entries_of-lefts.ensures.like
    c.entries_of-lefts.ensures.ascend e.from e.to (λ f. absurd cc) in (
      λ t. absurd cc,
      λ w.
          let within = one_within c.listed_or_not_law.ensures es c.requires (plain_site c.args.left)
          (least_entry c.args.right 0) c.args.cost found c.entries_of-found.ensures.like w e
          (item_contained found c.loop-place.place no_entry c.loop-place-test.true) in
          let t = c.is_within.ensures.1 (omega (arith, same, within)) in
          let f = c.if-not-is_within.true in cc,
    )

pub returns : goal.returns
returns c =
    let es = c.args.entries.now in
    let found = c.entries_of-found.result.now in (
      λ t. all_one c.listed_or_not_law.ensures es c.requires (plain_site c.args.left) (least_entry c.args.right 0) c.args.cost found c.entries_of-found.ensures.like
          (λ k d lt.
          let h = c.loop-place.invariant k d (let e = c.loop-place-test.false in omega arith) in
          let same = same_value c.listed_or_not_law.ensures es c.requires true
          (least_entry c.args.left 0) c.entries_of-lefts.result.now
          c.entries_of-lefts.ensures.like c.entries_of-lefts.ensures.ascend
          (get_or found k d).from (get_or found k d).to (λ f. absurd cc) in
          omega (arith, same, h)),
      λ w. refl,
    )
