use Rattle.std.proofs.Common.{subst, ◌≡◌}
use Rattle.std.proofs.lemmas.Result.{err_from_is_err_and}
use Rattle.pv_productive.specs.PlainForms.{dtd_of}
use Rattle.pv_tree.specs.PlainDocs.{plain_doc}
use Rattle.pv_complete.specs.Tables.{HasTablesCause}
use Rattle.pv_complete.specs.declared.errors.NeedError.{NeedError}
use Rattle.pv_complete.proofs.MadeTables.{cause_kept}
use Rattle.pv_complete.proofs.fixed.tables.Goals as goal

pub returns-in_err-verdicts-clause-refused : goal.returns-in_err-verdicts-clause-refused
returns-in_err-verdicts-clause-refused c =
    let d = dtd_of c.args.grammar.now in
    let root = c.args.root.now in
    let doc = plain_doc c.args.doc.now in
    let p = err_from_is_err_and c.from_residual.result c.from_residual.ensures.1 in
    rw p.1 (
    let q = p.2 in
    let same : c.in_err-verdicts.field-0.0 ≡ p.0 = cc in
    let cause : HasTablesCause d root doc c.in_err-verdicts.field-0.0 = cause_kept d root doc c.in_err-verdicts.field-0.0 c.in_err-verdicts.ensures.refused in
    subst (λ (e : NeedError). HasTablesCause d root doc e) same cause)

pub tables_under-requires : goal.tables_under-requires
tables_under-requires c = c.none-known.ensures (dtd_of c.in_ok-layout.layout.grammar.now)

pub returns-in_err-told-clause-refused : goal.returns-in_err-told-clause-refused
returns-in_err-told-clause-refused c =
    let p = err_from_is_err_and c.from_residual-in_err-told.result c.from_residual-in_err-told.ensures.1 in
    rw (p.1, p.2) ((rw c.in_ok-layout.ensures at c.in_err-told.ensures.refused) c.in_ok-verdicts.ensures.verdicts)

pub returns-clause-tables : goal.returns-clause-tables
returns-clause-tables c = (rw c.in_ok-layout.ensures at c.in_ok-told.ensures.tables) c.in_ok-verdicts.ensures.verdicts
