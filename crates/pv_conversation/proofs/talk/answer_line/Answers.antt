use Rattle.std.proofs.lemmas.Result.{err_from_is_err_and}
use Rattle.pv_conversation.specs.Conversation.{replied, without_memory}
use Rattle.pv_conversation.specs.Turns.{text_of_reply}
use Rattle.pv_conversation.proofs.VerdictLines.{is_reply_text}
use Rattle.pv_conversation.proofs.talk.answer_line.Goals as goal

pub returns-in_err-put_verdicts-clause-err : goal.returns-in_err-put_verdicts-clause-err
returns-in_err-put_verdicts-clause-err g c =
    let spells = c.asks_verdicts.ensures c.if-asks_verdicts.true in
    let told = rw c.session.ensures.same at c.in_err-put_verdicts.ensures.err in
    let p = err_from_is_err_and c.from_residual.result c.from_residual.ensures.1 in
    rw p.1 (told.0, is_reply_text _ _ _ told.0 spells told.1, told.2)

pub returns-then-asks_verdicts-clause-ok : goal.returns-then-asks_verdicts-clause-ok
returns-then-asks_verdicts-clause-ok g c =
    let spells = c.asks_verdicts.ensures c.if-asks_verdicts.true in
    let told = rw c.session.ensures.same at c.in_ok-put_verdicts.ensures.ok in
    (told.0, is_reply_text _ _ _ told.0 spells told.1, told.2)

pub returns-in_err-put-in-Ok-Some-clause-err : goal.returns-in_err-put-in-Ok-Some-clause-err
returns-in_err-put-in-Ok-Some-clause-err g c =
    let turn = rw c.in-Ok-Some.field-0-is at c.in-Ok-Some.ensures.turned in
    let p = err_from_is_err_and c.from_residual-in_err-put-in-Ok-Some.result c.from_residual-in_err-put-in-Ok-Some.ensures.1 in
    rw p.1 (text_of_reply c.in-Ok-Some.answer.text, replied turn.0 turn.1 turn.2.0 c.in-Ok-Some.ensures.counts, c.in_err-put-in-Ok-Some.ensures.err)

pub returns-in_ok-put-in-Ok-Some-clause-ok : goal.returns-in_ok-put-in-Ok-Some-clause-ok
returns-in_ok-put-in-Ok-Some-clause-ok g c =
    let turn = rw c.in-Ok-Some.field-0-is at c.in-Ok-Some.ensures.turned in
    (text_of_reply c.in-Ok-Some.answer.text, replied turn.0 turn.1 turn.2.0 c.in-Ok-Some.ensures.counts, c.in_ok-put-in-Ok-Some.ensures.ok)

pub returns-in_err-push-in-Err-clause-err : goal.returns-in_err-push-in-Err-clause-err
returns-in_err-push-in-Err-clause-err g c =
    let p = err_from_is_err_and c.from_residual-in_err-push-in-Err.result c.from_residual-in_err-push-in-Err.ensures.1 in
    rw p.1 (c.no_memory_text.result.now, without_memory c.in-Err.ensures.stays c.no_memory_text.ensures c.in-Err.ensures.counts, c.in_err-push-in-Err.ensures.err)

pub returns-in_ok-push-in-Err-clause-ok : goal.returns-in_ok-push-in-Err-clause-ok
returns-in_ok-push-in-Err-clause-ok g c =
    (c.no_memory_text.result.now, without_memory c.in-Err.ensures.stays c.no_memory_text.ensures c.in-Err.ensures.counts, c.in_ok-push-in-Err.ensures.ok)
