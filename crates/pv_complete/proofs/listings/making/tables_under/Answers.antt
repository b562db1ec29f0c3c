use Rattle.std.proofs.Common.{subst, ◌≡◌}
use Rattle.std.proofs.lemmas.Result.{err_from_is_err_and}
use Rattle.pv_productive.specs.PlainForms.{dtd_of}
use Rattle.pv_tree.specs.PlainDocs.{plain_doc}
use Rattle.pv_complete.specs.PlainForms.{made_of}
use Rattle.pv_complete.specs.Tables.{HasTablesCause}
use Rattle.pv_complete.specs.declared.errors.NeedError.{NeedError}
use Rattle.pv_complete.proofs.MadeTables.{cause_kept, has_tables, tables_cause}
use Rattle.pv_complete.proofs.listings.making.tables_under.Goals as goal

pub returns-in_err-count-clause-refused : goal.returns-in_err-count-clause-refused
returns-in_err-count-clause-refused c =
    let d = dtd_of c.args.layout.now.grammar.now in
    let root = c.args.root.now in
    let doc = plain_doc c.args.doc.now in
    let p = err_from_is_err_and c.from_residual.result c.from_residual.ensures.1 in
    rw p.1 (λ live.
    let q = p.2 in
    let same : c.in_err-count.field-0.0 ≡ p.0 = cc in
    let cause : HasTablesCause d root doc c.in_err-count.field-0.0 = cause_kept d root doc c.in_err-count.field-0.0 (c.in_err-count.ensures.refused live) in
    subst (λ (e : NeedError). HasTablesCause d root doc e) same cause)

pub returns-in_err-table_doc-clause-refused : goal.returns-in_err-table_doc-clause-refused
returns-in_err-table_doc-clause-refused c =
    let d = dtd_of c.args.layout.now.grammar.now in
    let root = c.args.root.now in
    let doc = plain_doc c.args.doc.now in
    let p = err_from_is_err_and c.from_residual-in_err-table_doc.result c.from_residual-in_err-table_doc.ensures.1 in
    rw p.1 (λ live.
    let q = p.2 in
    let same : c.in_err-table_doc.field-0.0 ≡ p.0 = cc in
    let cause : HasTablesCause d root doc c.in_err-table_doc.field-0.0 =
    tables_cause d root doc c.args.verdicts.now.verdicts (made_of c.new-made.result) c.in_err-table_doc.field-0.0 live.verdicts (c.in_ok-count.count, c.in_ok-count.ensures.needs live)
    c.new-made.ensures.used c.new-made.ensures.room c.in_err-table_doc.ensures.refused in
    subst (λ (e : NeedError). HasTablesCause d root doc e) same cause)

pub returns-clause-tables : goal.returns-clause-tables
returns-clause-tables c = λ live.
    rw c.of.ensures
    (has_tables (dtd_of c.args.layout.now.grammar.now) c.args.root.now (plain_doc c.args.doc.now) c.args.verdicts.now.verdicts (made_of c.new-made.result) (made_of c.table_doc.new.made) live.verdicts
    (c.in_ok-count.count, c.in_ok-count.ensures.needs live) c.new-made.ensures.used c.new-made.ensures.tables c.new-made.ensures.room c.in_ok-table_doc.ensures.tabled)
