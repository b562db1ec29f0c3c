use Rattle.std.proofs.Common.{◌+◌, ◌≤◌, length, take, arith}
use Rattle.std.proofs.lemmas.List.{length-take}
use Rattle.std.proofs.lemmas.Result.{err_from_is_err_and}
use Rattle.pv_conversation.specs.Script.{MAX_SCRIPT_BYTES}
use Rattle.pv_conversation.proofs.ConversationPieces.{piece_beyond, piece_failed}
use Rattle.pv_conversation.proofs.talk.answer_within.Goals as goal

pub returns-in_err-next-clause-next : goal.returns-in_err-next-clause-next
returns-in_err-next-clause-next g c = λ old script first full so_far.
    let within : length script + length (take c.args.reading.now.left c.args.piece.now) ≤ MAX_SCRIPT_BYTES = omega (arith, full, length-take c.args.reading.now.left c.args.piece.now) in
    let p = err_from_is_err_and c.from_residual.result c.from_residual.ensures.1 in
    rw p.1 (piece_failed _ _ _ script c.args.piece.now c.args.reading.now.left (c.in_err-next.ensures.next old script first within so_far))

pub returns-clause-next : goal.returns-clause-next
returns-clause-next g c = λ old script first full so_far.
    let within : length script + length (take c.args.reading.now.left c.args.piece.now) ≤ MAX_SCRIPT_BYTES = omega (arith, full, length-take c.args.reading.now.left c.args.piece.now) in
    piece_beyond _ _ script _ c.answer_lines-2.new.reading c.args.piece.now c.args.reading.now.left _ _ _ c.beyond.ensures (omega (arith, c.if-piece-left.false)) full
    (c.in_ok-next.ensures.next old script first within so_far)
