use Rattle.std.proofs.Common.{vec_len}
use Rattle.pv_conversation.specs.CountedLines.{counted}
use Rattle.pv_conversation.proofs.ConversationPieces.{Talks}
use Rattle.pv_conversation.proofs.talk.converse.Given as goal

abbrev pub invariant-pieces : goal.invariant-pieces
invariant-pieces g l =
    Talks (g.K.Sink.written l.initial.out) (g.K.Sink.written l.out) (counted l.initial.session l.initial.steps) (counted l.session l.steps) l.reading.lines l.reading.number
    (g.S.Source.left l.initial.input) (g.S.Source.left l.input) (g.S.Source.calls l.initial.input) (g.S.Source.calls l.input) (g.S.Source.faults l.initial.input) (g.S.Source.faults l.input)
    (g.K.Sink.faults l.initial.out) (g.K.Sink.faults l.out) l.reading.left (vec_len l.piece) l.reading.buffer (g.K.Sink.ready l.out)

abbrev pub decreases-pieces : goal.decreases-pieces
decreases-pieces g l = l.reading.left
