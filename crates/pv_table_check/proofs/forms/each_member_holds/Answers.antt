use Rattle.pv_rules.specs.PlainForms.{plain_site}
use Rattle.pv_table_check.proofs.FewMembers.{fewer_members}
use Rattle.pv_table_check.proofs.forms.each_member_holds.Goals as goal

pub members_hold-requires-clause-members : goal.members_hold-requires-clause-members
members_hold-requires-clause-members c =
    rw c.deref.ensures.value (fewer_members c.args.tested.now.entries.now (plain_site c.args.low)
    (plain_site c.args.high) c.entries_between-found.result.now c.in-Some.least.items
    c.entries_between-found.ensures c.in-Some.ensures)
