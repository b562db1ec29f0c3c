use Rattle.std.proofs.Common.{length}
use Rattle.pv_tree.specs.Attributes.{AreMadeOf, IsTextPiece}
use Rattle.pv_read.specs.PlainReferences.{IsReferenceOf}
use Rattle.pv_read.proofs.forms.values.are_pieces.Given as goal

abbrev pub invariant-references : goal.invariant-references
invariant-references l = record {
  enough : AreMadeOf (IsTextPiece (IsReferenceOf l.references)) l.rest → AreMadeOf (IsTextPiece (IsReferenceOf l.references)) l.bytes;
  needed : AreMadeOf (IsTextPiece (IsReferenceOf l.references)) l.bytes → AreMadeOf (IsTextPiece (IsReferenceOf l.references)) l.rest;
}

abbrev pub decreases-references : goal.decreases-references
decreases-references l = length l.rest
