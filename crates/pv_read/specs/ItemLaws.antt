-- Laws on the items of a document text.
use Rattle.std.specs.Prelude.{◌≡◌, ℕ, List, ◌++◌, Ok}
use Rattle.pv_chars.specs.Units.{units_in, TextMeans}
use Rattle.pv_tree.specs.Attributes.{IsCharacterData, IsKnownReference}
use Rattle.pv_read.specs.Items.{Item, text_run, IsRunEnd, BeginsItem}

-- at most one item stands at the front of any bytes
abbrev pub ItemsAreDetermined : Type 0
ItemsAreDetermined = (i j : Item) (bytes rest more : List ℕ) → BeginsItem i bytes rest →
    BeginsItem j bytes more → (i ≡ j) × (rest ≡ more)

-- a text that is units is a text run, up to `<` or the end
abbrev pub TextsAreRuns : Type 0
TextsAreRuns = (run rest : List ℕ) (units : List (List ℕ)) → TextMeans run (Ok units) →
    IsRunEnd rest → BeginsItem (text_run run) (run ++ rest) rest

-- character data in which each reference is known is a text that is units, and no other text is
abbrev pub UnitsAreCharacterData : Type 0
UnitsAreCharacterData = (run : List ℕ) (units : List (List ℕ)) → TextMeans run (Ok units) →
    IsCharacterData IsKnownReference run × (units ≡ units_in run)

abbrev pub CharacterDataIsUnits : Type 0
CharacterDataIsUnits = (run : List ℕ) → IsCharacterData IsKnownReference run →
    TextMeans run (Ok (units_in run))
