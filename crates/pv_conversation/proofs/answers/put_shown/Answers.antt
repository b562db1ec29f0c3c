use Rattle.std.proofs.Common.{codes, ◌++◌}
use Rattle.std.proofs.lemmas.Result.{err_from_is_err_and, on_err_weaker, on_ok_weaker}
use Rattle.pv_conversation.proofs.HeldReplies.{cut_first, cut_then, put_then}
use Rattle.pv_conversation.proofs.answers.put_shown.Goals as goal

pub returns-in_err-push-clause-err : goal.returns-in_err-push-clause-err
returns-in_err-push-clause-err g c =
    let p = err_from_is_err_and c.from_residual.result c.from_residual.ensures.1 in
    rw p.1 (cut_first _ _ c.args.buffer.now c.args.head.now (c.args.body.now ++ codes "\n") c.in_err-push.ensures.err)

pub returns-in_err-push-2-clause-err : goal.returns-in_err-push-2-clause-err
returns-in_err-push-2-clause-err g c =
    let p = err_from_is_err_and c.from_residual-in_err-push-2.result c.from_residual-in_err-push-2.ensures.1 in
    rw p.1 (cut_then _ _ _ c.args.buffer.now c.push.new.self c.args.head.now (c.args.body.now
    ++ codes "\n") c.in_ok-push.ensures.ok (cut_first _ _ c.push.new.self c.args.body.now
    (codes "\n") c.in_err-push-2.ensures.err))

pub returns-clause-ok : goal.returns-clause-ok
returns-clause-ok g c =
    on_ok_weaker c.push-3.result (λ more. put_then _ _ _ c.args.buffer.now c.push.new.self _ c.args.head.now (c.args.body.now ++ codes "\n") c.in_ok-push.ensures.ok
    (put_then _ _ _ c.push.new.self c.push-2.new.self _ c.args.body.now (codes "\n") c.in_ok-push-2.ensures.ok more)) c.push-3.ensures.ok

pub returns-clause-err : goal.returns-clause-err
returns-clause-err g c =
    on_err_weaker c.push-3.result (λ more. cut_then _ _ _ c.args.buffer.now c.push.new.self c.args.head.now (c.args.body.now ++ codes "\n") c.in_ok-push.ensures.ok
    (cut_then _ _ _ c.push.new.self c.push-2.new.self c.args.body.now (codes "\n") c.in_ok-push-2.ensures.ok more)) c.push-3.ensures.err
