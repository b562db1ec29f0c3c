use Rattle.std.proofs.Common.{arith}
use Rattle.pv_dtd.specs.PlainForms.{plain_dtd}
use Rattle.pv_write.specs.declared.pieces.Piece.TheVariants as piece
use Rattle.pv_long.proofs.TaggedDocs.{named_before, named_end}
use Rattle.pv_long.proofs.tags.list_bytes.Goals as goal

pub loop-piece-init : goal.loop-piece-init
loop-piece-init c = λ named. named

pub loop-piece-preserved : goal.loop-piece-preserved
loop-piece-preserved c = λ named. c.loop-piece.invariant
    (named_before (plain_dtd c.args.dtd.now) c.args.pieces.now c.loop-piece.piece-index piece.Kept
    (omega arith) c.in_ok-piece_bytes.ensures named)

pub returns : goal.returns
returns c =
    c.loop-piece.invariant (named_end (plain_dtd c.args.dtd.now) c.args.pieces.now
    c.loop-piece.piece-index (omega arith))
