use Rattle.std.proofs.Common.{arith}
use Rattle.pv_write.specs.declared.pieces.Piece.TheVariants as piece
use Rattle.pv_write.proofs.TaggedNodes.{after_next}
use Rattle.pv_write.proofs.new_tags.place_after.Goals as goal

pub returns-then-next-pieces-clause-after : goal.returns-then-next-pieces-clause-after
returns-then-next-pieces-clause-after c =
    rw (← c.has_token.ensures.shown, c.if-has_token.true)
    (after_next c.args.pieces.now c.args.next piece.Kept (omega arith))
