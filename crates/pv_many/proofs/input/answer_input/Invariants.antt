use Rattle.std.proofs.Common.{◌≡◌, true, vec_len}
use Rattle.pv_io.specs.Causes.{CountStays}
use Rattle.pv_many.proofs.Pieces.{Reads}
use Rattle.pv_many.proofs.input.answer_input.Given as goal

abbrev pub invariant-pieces : goal.invariant-pieces
invariant-pieces g l = record {
  reads : Reads (g.I.Inquiry.question l.initial.inquiry) l.root (g.I.Inquiry.dtd l.initial.inquiry)
      (g.F.Archive.moment l.initial.archive) (g.F.Archive.moment l.archive) l.held.items
      (g.K.Sink.written l.initial.out) (g.K.Sink.written l.out) (g.S.Source.left l.initial.input)
      (g.S.Source.left l.input) (g.S.Source.calls l.initial.input) (g.S.Source.calls l.input)
      l.left;
  input_stays : CountStays (g.S.Source.faults l.initial.input) (g.S.Source.faults l.input);
  stays : CountStays (g.K.Sink.faults l.initial.out) (g.K.Sink.faults l.out);
  roomy : vec_len l.piece ≡ 65536;
  same_question : g.I.Inquiry.question l.inquiry ≡ g.I.Inquiry.question l.initial.inquiry;
  same_dtd : g.I.Inquiry.dtd l.inquiry ≡ g.I.Inquiry.dtd l.initial.inquiry;
  is_ready : g.K.Sink.ready l.out ≡ true;
}

abbrev pub decreases-pieces : goal.decreases-pieces
decreases-pieces g l = l.left
