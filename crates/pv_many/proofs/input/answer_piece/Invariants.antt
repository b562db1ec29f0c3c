use Rattle.std.proofs.Common.{◌≡◌, List, ℕ, take, true}
use Rattle.std.specs.Io.KnownBytes.{Appends}
use Rattle.pv_io.specs.Causes.{CountStays}
use Rattle.pv_many.specs.Many.{AnswersPiece}
use Rattle.pv_many.proofs.input.answer_piece.Given as goal

abbrev pub invariant-loop-byte : goal.invariant-loop-byte
invariant-loop-byte g l = record {
  so_far : AnswersPiece (g.I.Inquiry.question l.initial.inquiry) l.root
      (g.I.Inquiry.dtd l.initial.inquiry) (g.F.Archive.moment l.initial.archive)
      (g.F.Archive.moment l.archive)
      l.initial.held.items (take l.byte-index l.piece) l.held.items (λ (text : List ℕ). Appends (g.K.Sink.written l.initial.out) (g.K.Sink.written l.out) text);
  stays : CountStays (g.K.Sink.faults l.initial.out) (g.K.Sink.faults l.out);
  same_question : g.I.Inquiry.question l.inquiry ≡ g.I.Inquiry.question l.initial.inquiry;
  same_dtd : g.I.Inquiry.dtd l.inquiry ≡ g.I.Inquiry.dtd l.initial.inquiry;
  is_ready : g.K.Sink.ready l.out ≡ true;
}
