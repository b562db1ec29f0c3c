-- The plain forms of pieces.
use Rattle.std.specs.Prelude.{List, Vec, map}
use Rattle.std.specs.declared.alloc.Global.{Global}
use Rattle.pv_write.specs.Pieces.{PlainPiece, finish, kept, start}
use Rattle.pv_write.specs.declared.pieces.Piece.{Piece}
use Rattle.pv_write.specs.declared.pieces.Piece.TheVariants as piece

abbrev pub plain_piece : Piece → PlainPiece
plain_piece piece.Kept = kept
plain_piece (piece.Start id) = start id.0
plain_piece (piece.End id) = finish id.0

-- the plain forms of pieces
abbrev pub plain_pieces : List Piece → List PlainPiece
plain_pieces ps = map plain_piece ps

-- the plain forms of the pieces of lists
abbrev pub plain_lists : List (Vec Piece Global) → List (List PlainPiece)
plain_lists lists = map (λ (list : Vec Piece Global). plain_pieces list.items) lists
