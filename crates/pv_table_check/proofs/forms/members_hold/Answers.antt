use Rattle.std.proofs.Common.{false, true}
use Rattle.pv_rules.specs.PlainForms.{plain_site}
use Rattle.pv_table_check.specs.Tested.{dtd_in, word_in}
use Rattle.pv_table_check.specs.declared.sums.Pair.{Pair}
use Rattle.pv_table_check.proofs.ClosureByForms.{in_order}
use Rattle.pv_table_check.proofs.FewMembers.{by_members, each_member}
use Rattle.pv_table_check.proofs.forms.members_hold.Goals as goal

pub sums_hold-requires-clause-firsts : goal.sums_hold-requires-clause-firsts
sums_hold-requires-clause-firsts c = λ e m. (c.requires.members.are e m).0

pub returns : goal.returns
returns c =
    let es = c.args.tested.now.entries.now in
    let o = in_order c.listed_or_not_law.ensures (dtd_in c.args.tested.now) (word_in c.args.tested.now) es c.requires.sound.over in
    let p : Pair = record { left = c.args.left; second = c.args.left; outer = true; inner = false } in (
      λ t. each_member c.listed_or_not_law.ensures es o p (plain_site c.args.low) (plain_site c.args.high) c.args.found.now c.requires.members (c.sums_hold.ensures.0 t),
      λ w. c.sums_hold.ensures.1 (by_members c.listed_or_not_law.ensures es o p (plain_site c.args.low) (plain_site c.args.high) c.args.found.now c.requires.members w),
    )
