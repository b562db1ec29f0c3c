use Rattle.std.proofs.lemmas.Result.{err_from_is_err_and}
use Rattle.pvlong.proofs.Answers.{answer_found, files_refused}
use Rattle.pvlong.proofs.answering.answer.Goals as goal

pub returns-in_err-fetched-clause-finds : goal.returns-in_err-fetched-clause-finds
returns-in_err-fetched-clause-finds g c =
    let asked = c.args.request.now in
    let named = asked.named in
    let p = err_from_is_err_and c.from_residual.result c.from_residual.ensures.1 in
    rw (p.1, p.2) (files_refused asked.question named.dtd.now named.root.now named.doc.now _ _ c.in_err-fetched.field-0.0 c.in_err-fetched.ensures.over)

pub returns-clause-finds : goal.returns-clause-finds
returns-clause-finds g c =
    let asked = c.args.request.now in
    let named = asked.named in
    answer_found asked.question named.dtd.now named.root.now named.doc.now _ _ c.in_ok-fetched.fetched c.answer_fetched.result c.in_ok-fetched.ensures.over c.answer_fetched.ensures

pub returns-in_err-fetched-clause-files : goal.returns-in_err-fetched-clause-files
returns-in_err-fetched-clause-files g c = c.in_err-fetched.ensures.over.same

pub returns-clause-files : goal.returns-clause-files
returns-clause-files g c = c.in_ok-fetched.ensures.over.same
