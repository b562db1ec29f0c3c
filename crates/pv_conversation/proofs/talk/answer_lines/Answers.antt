use Rattle.std.proofs.Common.{◌≡◌, ◌∙◌, ap, length, false, refl, arith}
use Rattle.std.proofs.lemmas.Result.{err_from_is_err_and}
use Rattle.pv_conversation.proofs.ConversationPieces.{behind_line, goes_failed, goes_first}
use Rattle.pv_conversation.proofs.ConversationPieces.{goes_line, goes_long, goes_quit, line_size}
use Rattle.pv_conversation.proofs.talk.answer_lines.Goals as goal

pub lines-init : goal.lines-init
lines-init g c = record {
  stays = refl;
  goes = goes_first _ _ _ _ _ _ c.requires.none;
  is_ready = c.requires.ready;
  left = refl;
  number = omega arith;
}

pub returns-in-TooLong-clause-next : goal.returns-in-TooLong-clause-next
returns-in-TooLong-clause-next g c = λ old script first within so_far.
    goes_long _ _ _ _ _ _ _ _ _ _ _ _ c.lines.invariant.goes c.in-TooLong.ensures old script first within so_far

pub returns-in_err-answer_line-in-Line-clause-next :
    goal.returns-in_err-answer_line-in-Line-clause-next
returns-in_err-answer_line-in-Line-clause-next g c = λ old script first within so_far.
    let p = err_from_is_err_and c.from_residual.result c.from_residual.ensures.1 in
    let told = rw c.line-line.ensures at c.in_err-answer_line-in-Line.ensures.err in
    rw p.1 (goes_failed _ _ _ _ _ _ _ _ _ _ _ _ _ _ _ told.0 c.lines.invariant.goes c.in-Line.ensures told.1 told.2 old script first within so_far)

pub returns-then-not-branch-clause-next : goal.returns-then-not-branch-clause-next
returns-then-not-branch-clause-next g c = λ old script first within so_far.
    let no : c.in_ok-answer_line-in-Line.field-0 ≡ false = grind (arith, c.if-not-branch.true) in
    let told = rw (no, c.line-line.ensures) at c.in_ok-answer_line-in-Line.ensures.ok in
    goes_quit _ _ _ _ _ _ _ _ _ _ _ _ _ _ _ _ c.lines.invariant.goes c.in-Line.ensures told.0 told.1 told.2 old script first within so_far

pub lines-preserved : goal.lines-preserved
lines-preserved g c =
    let takes = c.in-Line.ensures in
    let told = rw (c.if-not-branch.false, c.line-line.ensures) at c.in_ok-answer_line-in-Line.ensures.ok in
    let behind = behind_line _ _ _ _ takes in
    let size = line_size _ _ _ _ takes in
    record {
      stays = c.in_ok-answer_line-in-Line.ensures.cause ∙ c.lines.invariant.stays;
      goes = rw c.clear.ensures (goes_line _ _ _ _ _ _ _ _ _ _ _ _ _ _ _ _ _ told.0 c.lines.invariant.goes takes behind told.1 told.2);
      is_ready = c.in_ok-answer_line-in-Line.ensures.ready;
      left = c.lines.invariant.left;
      number = omega (arith, c.lines.invariant.number, takes.is_eaten, size, ap length behind);
    }
