use Rattle.pv_rules.specs.Sites.{name_site}
use Rattle.pv_table_check.proofs.FewMembers.{fewer_members}
use Rattle.pv_table_check.proofs.closing.all_names_closed.Goals as goal

pub names_closed-requires-clause-declared : goal.names_closed-requires-clause-declared
names_closed-requires-clause-declared c =
    rw (c.deref.ensures.value, ← c.count.ensures) (fewer_members c.args.tested.now.entries.now
    (name_site 0) (name_site c.count.result) c.entries_between-declared.result.now
    c.in-Some.least.items c.entries_between-declared.ensures c.in-Some.ensures)
