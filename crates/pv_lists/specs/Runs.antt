-- Text runs in which each reference is known.
use Rattle.std.specs.Prelude.{ℕ, List}
use Rattle.pv_tree.specs.Attributes.{IsCharacterData, IsKnownReference}
use Rattle.pv_read.specs.Items.{text_run, BeginsItem}

-- Such a run stands at the front, and this after it.
pub record BeginsKnownRun (bytes run rest : List ℕ) : Type 0 where
  pub begins : BeginsItem (text_run run) bytes rest
  pub known : IsCharacterData IsKnownReference run
