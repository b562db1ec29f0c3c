use Rattle.pv_many.proofs.Pieces.{some_held, these_last}
use Rattle.pv_many.proofs.CallResults.{on_err_as, on_ok_as}
use Rattle.pv_many.proofs.input.answer_last.Goals as goal

pub returns-clause-ok : goal.returns-clause-ok
returns-clause-ok g c =
    let some = some_held c.args.held.now _ c.is_empty.ensures c.if-is_empty.false in
    on_ok_as c.answer_name.result (λ one. these_last _ _ _ c.args.held.now _ _ _ some one) c.answer_name.ensures.ok

pub returns-clause-err : goal.returns-clause-err
returns-clause-err g c =
    let some = some_held c.args.held.now _ c.is_empty.ensures c.if-is_empty.false in
    on_err_as c.answer_name.result (λ one. these_last _ _ _ c.args.held.now _ _ _ some one) c.answer_name.ensures.err
