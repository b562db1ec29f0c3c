use Rattle.std.proofs.Common.{arith, refl}
use Rattle.pv_rules.specs.PlainForms.{plain_site}
use Rattle.pv_table_check.specs.Lookup.{least_entry}
use Rattle.pv_table_check.proofs.FewMembers.{all_members, no_members}
use Rattle.pv_table_check.proofs.lookup.entries_between.Goals as goal

pub returns-then-end-start : goal.returns-then-end-start
returns-then-end-start c =
    let one = c.count_before-start.ensures in let two = c.count_before-end.ensures in
    no_members (plain_site c.args.low) (plain_site c.args.high) c.requires.kind c.args.entries.now (least_entry c.args.low 0) (least_entry c.args.high 0) refl refl refl refl refl refl
    c.count_before-start.result c.count_before-end.result two.within one.before one.behind two.before two.behind c.if-end-start.true

pub returns : goal.returns
returns c =
    let one = c.count_before-start.ensures in let two = c.count_before-end.ensures in
    all_members (plain_site c.args.low) (plain_site c.args.high) c.requires.kind c.args.entries.now (least_entry c.args.low 0) (least_entry c.args.high 0) refl refl refl refl refl refl
    c.count_before-start.result c.count_before-end.result two.within one.before one.behind two.before two.behind (let f = c.if-end-start.false in omega arith)
