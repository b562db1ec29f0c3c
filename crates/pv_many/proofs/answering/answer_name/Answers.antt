use Rattle.std.proofs.Common.{[], ◌∷◌}
use Rattle.std.proofs.lemmas.Result.{err_from_is_err_and}
use Rattle.pv_opening.specs.Returns.{ending_of}
use Rattle.pv_many.specs.Answers.{line_of}
use Rattle.pv_io.proofs.Streams.{appends_behind, front_before, front_behind}
use Rattle.pv_many.proofs.CallResults.{on_err_as, on_ok_as}
use Rattle.pv_many.proofs.answering.answer_name.Goals as goal

pub returns-in_err-write_all-clause-err : goal.returns-in_err-write_all-clause-err
returns-in_err-write_all-clause-err g c =
    let p = err_from_is_err_and c.from_residual.result c.from_residual.ensures.1 in
    let answer = c.answer_document-answer.result in
    rw p.1 (record {
      ending = ending_of answer;
      found = c.answer_document-answer.ensures.finds;
      shown = front_before _ _ c.args.name.now (0 ∷ line_of (ending_of answer)) c.in_err-write_all.ensures.err;
    })

pub returns-in_err-write_all-2-clause-err : goal.returns-in_err-write_all-2-clause-err
returns-in_err-write_all-2-clause-err g c =
    let p = err_from_is_err_and c.from_residual-in_err-write_all-2.result c.from_residual-in_err-write_all-2.ensures.1 in
    let answer = c.answer_document-answer.result in
    rw p.1 (record {
      ending = ending_of answer;
      found = c.answer_document-answer.ensures.finds;
      shown = front_behind _ _ _ c.args.name.now (0 ∷ line_of (ending_of answer)) c.in_ok-write_all.ensures.ok
          (front_before _ _ (0 ∷ []) (line_of (ending_of answer)) c.in_err-write_all-2.ensures.err);
    })

pub returns-clause-ok : goal.returns-clause-ok
returns-clause-ok g c =
    let answer = c.answer_document-answer.result in
    on_ok_as c.write_line.result (λ wrote. record {
      ending = ending_of answer;
      found = c.answer_document-answer.ensures.finds;
      shown = appends_behind _ _ _ c.args.name.now (0 ∷ line_of (ending_of answer)) c.in_ok-write_all.ensures.ok
          (appends_behind _ _ _ (0 ∷ []) (line_of (ending_of answer)) c.in_ok-write_all-2.ensures.ok wrote);
    }) c.write_line.ensures.ok

pub returns-clause-err : goal.returns-clause-err
returns-clause-err g c =
    let answer = c.answer_document-answer.result in
    on_err_as c.write_line.result (λ cut. record {
      ending = ending_of answer;
      found = c.answer_document-answer.ensures.finds;
      shown = front_behind _ _ _ c.args.name.now (0 ∷ line_of (ending_of answer)) c.in_ok-write_all.ensures.ok
          (front_behind _ _ _ (0 ∷ []) (line_of (ending_of answer)) c.in_ok-write_all-2.ensures.ok cut);
    }) c.write_line.ensures.err
