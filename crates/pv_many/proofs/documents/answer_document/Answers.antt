use Rattle.std.proofs.lemmas.Result.{err_from_is_err_and}
use Rattle.pv_many.proofs.NamedAnswers.{document_answered, fetch_stopped}
use Rattle.pv_many.proofs.documents.answer_document.Goals as goal

pub returns-in_err-bytes-clause-finds : goal.returns-in_err-bytes-clause-finds
returns-in_err-bytes-clause-finds g c =
    let p = err_from_is_err_and c.from_residual.result c.from_residual.ensures.1 in
    rw (p.1, p.2) (fetch_stopped _ _ _ _ _ _ c.in_err-bytes.field-0.0 c.in_err-bytes.ensures)

pub returns-clause-finds : goal.returns-clause-finds
returns-clause-finds g c = document_answered _ _ _ _ _ _ c.in_ok-bytes.bytes c.answer.result c.in_ok-bytes.ensures c.answer.ensures.takes
