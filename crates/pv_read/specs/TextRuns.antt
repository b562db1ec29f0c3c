-- A text run that is read as units.
use Rattle.std.specs.Prelude.{◌≡◌, ℕ, List}
use Rattle.pv_chars.specs.Units.{units_in}
use Rattle.pv_tree.specs.Attributes.{IsCharacterData, IsKnownReference}
use Rattle.pv_read.specs.Items.{text_run, BeginsItem}

-- A text run in which each reference is known stands at the front, and this after it; these are
-- its units.
pub record BeginsText (bytes : List ℕ) (units : List (List ℕ)) (rest : List ℕ) : Type 0 where
  pub run : List ℕ
  pub begins : BeginsItem (text_run run) bytes rest
  pub known : IsCharacterData IsKnownReference run
  pub units_are : units ≡ units_in run

-- no such text run stands at the front
abbrev pub BeginsNoText : List ℕ → Type 0
BeginsNoText bytes = (run rest : List ℕ) → BeginsItem (text_run run) bytes rest →
    IsCharacterData IsKnownReference run → ⊥
