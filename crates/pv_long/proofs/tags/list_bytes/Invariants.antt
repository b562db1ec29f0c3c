use Rattle.std.proofs.Common.{drop}
use Rattle.pv_dtd.specs.PlainForms.{plain_dtd}
use Rattle.pv_write.specs.PieceForms.{plain_pieces}
use Rattle.pv_long.specs.NewTags.{HasNamesOf}
use Rattle.pv_long.proofs.tags.list_bytes.Given as goal

-- if the DTD has the names of the tags that are left, it has all
abbrev pub invariant-loop-piece : goal.invariant-loop-piece
invariant-loop-piece l =
    HasNamesOf (plain_dtd l.dtd) (plain_pieces (drop l.piece-index l.pieces)) →
    HasNamesOf (plain_dtd l.dtd) (plain_pieces l.pieces)
