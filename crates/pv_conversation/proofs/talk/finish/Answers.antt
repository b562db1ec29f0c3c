use Rattle.std.proofs.Common.{◌<◌, length, true, arith}
use Rattle.std.proofs.lemmas.List.{nil_from_length}
use Rattle.std.proofs.lemmas.Result.{err_from_is_err_and}
use Rattle.pv_conversation.specs.Session.{all_told}
use Rattle.pv_conversation.proofs.ConversationLines.{ended_as, ends_with_all}
use Rattle.pv_conversation.proofs.HeldReplies.{holds_cut, holds_written}
use Rattle.pv_conversation.proofs.ConversationPieces.{last_answered, last_failed}
use Rattle.pv_conversation.proofs.talk.finish.Goals as goal

pub returns-in_err-answer_line-clause-finished : goal.returns-in_err-answer_line-clause-finished
returns-in_err-answer_line-clause-finished g c = λ old script first within so_far.
    let p = err_from_is_err_and c.from_residual.result c.from_residual.ensures.1 in
    let some : 0 < length c.args.reading.now.lines.bytes = omega (arith, c.held.ensures, c.if-held-gt0.true) in
    rw p.1 (last_failed _ _ _ _ _ _ _ _ _ _ c.line-line.ensures (rw c.requires.none at c.in_err-answer_line.ensures.err) some within so_far)

pub returns-in_err-flush-clause-finished : goal.returns-in_err-flush-clause-finished
returns-in_err-flush-clause-finished g c = λ old script first within so_far.
    let p = err_from_is_err_and c.from_residual-in_err-flush.result c.from_residual-in_err-flush.ensures.1 in
    let some : 0 < length c.args.reading.now.lines.bytes = omega (arith, c.held.ensures, c.if-held-gt0.true) in
    let so = last_answered old _ _ _ first _ _ script _ _ _ _ c.line-line.ensures (rw c.requires.none at c.in_ok-answer_line.ensures.ok) some within so_far in
    rw p.1 (ended_as _ _ first _ script true all_told (λ out h. holds_cut _ _ _ _ out h c.in_err-flush.ensures.err) so)

pub returns-in_ok-flush-clause-finished : goal.returns-in_ok-flush-clause-finished
returns-in_ok-flush-clause-finished g c = λ old script first within so_far.
    let some : 0 < length c.args.reading.now.lines.bytes = omega (arith, c.held.ensures, c.if-held-gt0.true) in
    let so = last_answered old _ _ _ first _ _ script _ _ _ _ c.line-line.ensures (rw c.requires.none at c.in_ok-answer_line.ensures.ok) some within so_far in
    ended_as _ _ first _ script true all_told (λ out h. holds_written _ _ _ _ out h c.in_ok-flush.ensures.ok) so

pub returns-else-held-gt0-clause-finished : goal.returns-else-held-gt0-clause-finished
returns-else-held-gt0-clause-finished g c = λ old script first within so_far.
    ends_with_all _ _ _ _ _ _ so_far within (nil_from_length _ (omega (arith, c.held.ensures, c.if-held-gt0.false)))
