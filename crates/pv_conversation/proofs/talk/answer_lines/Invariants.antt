use Rattle.std.proofs.Common.{◌≡◌, ◌+◌, ◌≤◌, length, true}
use Rattle.pv_io.specs.Causes.{CountStays}
use Rattle.pv_conversation.specs.CountedLines.{counted}
use Rattle.pv_conversation.proofs.ConversationPieces.{GoesTo}
use Rattle.pv_conversation.proofs.talk.answer_lines.Given as goal

abbrev pub invariant-lines : goal.invariant-lines
invariant-lines g l = record {
  stays : CountStays (g.K.Sink.faults l.initial.out) (g.K.Sink.faults l.out);
  goes : GoesTo (g.K.Sink.written l.initial.out) (g.K.Sink.written l.out) l.reading.buffer
      (counted l.initial.session l.initial.steps) (counted l.session l.steps)
      l.initial.reading.lines l.reading.lines
      l.initial.reading.number l.reading.number l.piece l.rest;
  is_ready : g.K.Sink.ready l.out ≡ true;
  left : l.reading.left ≡ l.initial.reading.left;
  number : l.reading.number + length l.rest ≤ l.initial.reading.number + length l.piece;
}

abbrev pub decreases-lines : goal.decreases-lines
decreases-lines g l = length l.rest
