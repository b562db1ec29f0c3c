use Rattle.std.proofs.Common.{refl}
use Rattle.pv_productive.specs.PlainForms.{dtd_of}
use Rattle.pv_tree.specs.PlainDocs.{plain_doc}
use Rattle.pv_denial.proofs.ListJudgements.{matched_none, matched_some}
use Rattle.pv_deny.proofs.DenialsAtPaths.{denial_there, fits, stands_there, too_many_there}
use Rattle.pv_deny.proofs.denying.denial_over.Goals as goal

pub unreachable-requires : goal.unreachable-requires
unreachable-requires c = stands_there (dtd_of c.args.grammar.now) c.args.root.now (plain_doc c.args.doc.now) c.args.path c.requires.first c.in_default.ensures

pub rows_by-requires-clause-narrow : goal.rows_by-requires-clause-narrow
rows_by-requires-clause-narrow c = fits (dtd_of c.args.grammar.now) c.args.root.now (plain_doc c.args.doc.now) c.args.path c.in-Some.place c.in-Some.ensures c.requires.narrow

pub returns-in_default-2-clause-refused : goal.returns-in_default-2-clause-refused
returns-in_default-2-clause-refused c =
    let m = matched_none c.in_ok-rows.field-0 _ _ c.in_ok-rows.ensures c.in_default-2.is in
    let at = c.in-Some.ensures in
    too_many_there (dtd_of c.args.grammar.now) c.args.root.now (plain_doc c.args.doc.now)
    c.args.path c.in-Some.place at c.one_list_at_path_law.ensures c.requires.narrow
    c.requires.first c.cause_of-cause.result
    (c.cause_of-cause.ensures c.args.root.now at.list at.is_place) m.0 m.1

pub returns-clause-denied : goal.returns-clause-denied
returns-clause-denied c =
    let m = matched_some c.in_ok-rows.field-0 c.in-Some-2.rows _ _ c.in_ok-rows.ensures c.in-Some-2.is in
    let at = c.in-Some.ensures in
    denial_there (dtd_of c.args.grammar.now) c.args.root.now (plain_doc c.args.doc.now) c.args.path c.in-Some.place at c.one_list_at_path_law.ensures c.requires.narrow c.requires.first
    record { path = c.args.path; cause = c.cause_of-cause.result; rows = c.in-Some-2.rows } refl (c.cause_of-cause.ensures c.args.root.now at.list at.is_place) m
