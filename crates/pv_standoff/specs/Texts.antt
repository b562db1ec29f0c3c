-- What is left of a text.
use Rattle.std.specs.Prelude.{◌≡◌, ℕ, false, List}
use Rattle.pv_chars.specs.Texts.{joined, holds_close_mark}
use Rattle.pv_chars.specs.Units.{AllUnits}

-- These bytes are these units, and the three literal characters `]]>` stand nowhere among them.
pub record SpellsUnits (bytes : List ℕ) (units : List (List ℕ)) : Type 0 where
  pub are_units : AllUnits units
  pub whole : bytes ≡ joined units
  pub none : holds_close_mark units ≡ false
