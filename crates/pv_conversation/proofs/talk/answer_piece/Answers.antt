use Rattle.std.proofs.lemmas.Result.{err_from_is_err_and}
use Rattle.pv_conversation.proofs.HeldReplies.{holds_cut, holds_written}
use Rattle.pv_conversation.proofs.ConversationPieces.{fits_within, goes_on_as, goes_on_cut}
use Rattle.pv_conversation.proofs.talk.answer_piece.Goals as goal

pub returns-in_err-next-clause-next : goal.returns-in_err-next-clause-next
returns-in_err-next-clause-next g c = λ old script first full so_far.
    let p = err_from_is_err_and c.from_residual.result c.from_residual.ensures.1 in
    rw p.1 (c.in_err-next.ensures.next old script first full so_far)

pub returns-in_err-flush-clause-next : goal.returns-in_err-flush-clause-next
returns-in_err-flush-clause-next g c = λ old script first full so_far.
    let p = err_from_is_err_and c.from_residual-in_err-flush.result c.from_residual-in_err-flush.ensures.1 in
    rw p.1 (goes_on_cut _ _ _ _ _ c.answer_within.new.reading c.in_ok-next.next (λ out h. holds_cut _ _ _ _ out h c.in_err-flush.ensures.err)
    (fits_within script c.args.piece.now c.args.reading.now.left c.in_ok-next.next c.in_ok-next.ensures.fits full) (c.in_ok-next.ensures.next old script first full so_far))

pub returns-clause-next : goal.returns-clause-next
returns-clause-next g c = λ old script first full so_far.
    goes_on_as _ _ _ _ _ c.answer_within.new.reading c.in_ok-next.next (λ out h. holds_written _ _ _ _ out h c.in_ok-flush.ensures.ok) (c.in_ok-next.ensures.next old script first full so_far)
