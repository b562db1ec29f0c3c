use Rattle.std.proofs.Common.{get_or}
use Rattle.pv_rules.specs.PlainForms.{plain_site}
use Rattle.pv_table_check.specs.Lookup.{least_entry}
use Rattle.pv_table_check.specs.Tested.{dtd_in, word_in}
use Rattle.pv_table_check.proofs.ClosureByForms.{in_order}
use Rattle.pv_table_check.proofs.ClosedSites.{all_two, item_contained, two_within}
use Rattle.pv_table_check.proofs.forms.two_holds.Goals as goal

pub sums_hold-requires-clause-firsts : goal.sums_hold-requires-clause-firsts
sums_hold-requires-clause-firsts c = λ e m. (c.entries_of.ensures.like.like e m).0

pub returns : goal.returns
returns c =
    let es = c.args.tested.now.entries.now in
    let o = in_order c.listed_or_not_law.ensures (dtd_in c.args.tested.now) (word_in c.args.tested.now) es c.requires.over in
    let found = c.entries_of.result.now in
    let like = c.entries_of.ensures.like in (
      λ t. all_two c.listed_or_not_law.ensures es o (plain_site c.args.left) (plain_site c.args.second) c.args.outer c.args.inner (least_entry c.args.first 0) found like (c.sums_hold.ensures.0 t),
      λ w. c.sums_hold.ensures.1 (λ k d lt. two_within c.listed_or_not_law.ensures es o
          (plain_site c.args.left) (plain_site c.args.second) c.args.outer c.args.inner
          (least_entry c.args.first 0) found like w (get_or found k d) (item_contained found k d lt)),
    )
