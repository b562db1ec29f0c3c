use Rattle.std.proofs.Common.{Err, inl, refl}
use Rattle.std.proofs.lemmas.Result.{err_from_is_err_and}
use Rattle.pv_productive.specs.PlainForms.{dtd_of}
use Rattle.pv_tree.specs.PlainDocs.{plain_doc}
use Rattle.pv_opening.specs.Stage.{short_of_memory}
use Rattle.pv_commands.proofs.DocumentPacks.{found_refused, packs_as, packs_told}
use Rattle.pv_commands.proofs.complete.tell.Goals as goal

pub returns-in_err-write_pack-in-Ok : goal.returns-in_err-write_pack-in-Ok
returns-in_err-write_pack-in-Ok c = λ opened is are.
    let p = err_from_is_err_and c.from_residual.result c.from_residual.ensures.1 in
    rw (p.1, p.2) (short_of_memory 0 (inl refl) refl)

pub returns-in_ok-write_pack-in-Ok : goal.returns-in_ok-write_pack-in-Ok
returns-in_ok-write_pack-in-Ok c = λ opened is are.
    packs_told c.args.root.now (dtd_of c.args.grammar.now) opened.dtd (plain_doc c.args.doc.now)
    opened.doc c.in-Ok.pack c.in_ok-write_pack-in-Ok.field-0.items is are c.in-Ok.ensures.least
    c.in-Ok.ensures.verifiable c.in_ok-write_pack-in-Ok.ensures.spelled

pub returns-in-Err : goal.returns-in-Err
returns-in-Err c = λ opened is are.
    let d = dtd_of c.args.grammar.now in
    let doc = plain_doc c.args.doc.now in
    packs_as c.args.root.now d opened.dtd doc opened.doc (Err c.refuse_pack.result) is are
    (found_refused c.args.root.now d doc c.in-Err.error c.refuse_pack.result
    (rw c.dtd.ensures at c.proper_dtd_law.ensures) c.proper_doc_law.ensures c.in-Err.ensures.refused
    c.refuse_pack.ensures)
