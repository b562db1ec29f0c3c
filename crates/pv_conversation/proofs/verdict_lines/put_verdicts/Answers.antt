use Rattle.std.proofs.lemmas.Result.{on_err_weaker, on_ok_weaker}
use Rattle.pv_tree.specs.PlainDocs.{plain_doc}
use Rattle.pv_conversation.specs.VerdictLines.{verdicts_text}
use Rattle.pv_conversation.proofs.VerdictLines.{told_text}
use Rattle.pv_conversation.proofs.verdict_lines.put_verdicts.Goals as goal

pub returns-in-Ok-clause-ok : goal.returns-in-Ok-clause-ok
returns-in-Ok-clause-ok g c =
    let doc = plain_doc c.doc.result.now in
    on_ok_weaker c.put_all.result (λ holds. (verdicts_text doc, told_text c.args.session.now doc c.doc.ensures.doc c.doc.ensures.marked, holds)) c.put_all.ensures.ok

pub returns-in-Ok-clause-err : goal.returns-in-Ok-clause-err
returns-in-Ok-clause-err g c =
    let doc = plain_doc c.doc.result.now in
    on_err_weaker c.put_all.result (λ front. (verdicts_text doc, told_text c.args.session.now doc c.doc.ensures.doc c.doc.ensures.marked, front)) c.put_all.ensures.err
