use Rattle.std.proofs.lemmas.Result.{err_from_is_err_and}
use Rattle.pv_conversation.proofs.HeldReplies.{holds_no_more}
use Rattle.pv_io.proofs.Streams.{front_behind}
use Rattle.pv_conversation.proofs.reply_buffer.ReplyBuffer.push.Goals as goal

pub returns-in_err-write_all-clause-err : goal.returns-in_err-write_all-clause-err
returns-in_err-write_all-clause-err g c =
    let p = err_from_is_err_and c.from_residual-in_err-write_all.result c.from_residual-in_err-write_all.ensures.1 in
    rw p.1 (front_behind _ _ _ _ _ c.in_ok-flush.ensures.ok c.in_err-write_all.ensures.err)

pub returns-then-reply-gt-ROOM-clause-ok : goal.returns-then-reply-gt-ROOM-clause-ok
returns-then-reply-gt-ROOM-clause-ok g c = holds_no_more _ _ _ _ _ _ c.in_ok-flush.ensures.ok c.in_ok-write_all.ensures.ok c.in_ok-flush.ensures.none
