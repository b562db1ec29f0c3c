-- Character data is units that hold no `]]>`.
use Rattle.std.proofs.Common.{◌≡◌, ◌≢◌, ℕ, List, [], ◌∷◌, false, refl}
use Rattle.std.specs.List.{AllByRecursion}
use Rattle.pv_chars.specs.Texts.{joined, holds_close_mark}
use Rattle.pv_chars.specs.Units.{AllUnits}
use Rattle.pv_chars.proofs.CloseMarks.{held_by_units, units_some}
use Rattle.pv_tree.specs.Attributes.{IsCharacterData, IsKnownReference, IsTextPiece}

pub units_are_pieces : (units : List (List ℕ)) → AllUnits units → AllByRecursion (IsTextPiece IsKnownReference) units
units_are_pieces [] all = tt
units_are_pieces (u ∷ us) all = (all.0, units_are_pieces us all.1)

-- these units are character data
pub units_are_data : (units : List (List ℕ)) → AllUnits units → units ≢ [] → holds_close_mark units ≡ false → IsCharacterData IsKnownReference (joined units)
units_are_data units all some none = record {
  some = units_some units all some;
  are_pieces = record { pieces = units; are_pieces = units_are_pieces units all; whole = refl };
  no_close_mark = λ held. let e = held_by_units units all held in absurd cc;
}
