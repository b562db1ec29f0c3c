-- What is kept beside a content model, so that words are matched in little time.
use Rattle.std.specs.Prelude.{◌≡◌, ℕ, ◌↔◌, Bool, IsTrue, List, Contains, nat_eq}
use Rattle.std.specs.HashSet.{HashSet, contains}
use Rattle.pv_model.specs.Plain.{PlainPart, PlainModel, mixed, children}
use Rattle.pv_model.specs.Models.{Matches}
use Rattle.pv_model.specs.Layouts.{PlainLayout, HasWord, has_empty_word}
use Rattle.pv_model.specs.LaidOut.{HasPlaces}
use Rattle.pv_model.specs.PlainForms.{plain_layout}
use Rattle.pv_model.specs.declared.laid.Form.{Form}
use Rattle.pv_model.specs.declared.laid.Form.TheVariants.{Own, Listed, Pairs}
use Rattle.pv_model.specs.declared.places.Places.{Places}

-- the set has the names that the model lists
pub record HasListed {S : Type 0} (m : PlainModel) (s : HashSet ℕ S) : Type 0 where
  pub names : List ℕ
  pub is : m ≡ mixed names
  pub members : (y : ℕ) → IsTrue (contains nat_eq s y) ↔ Contains names y

-- the layout has the words of the model's particle, these are the places of its names, and it is
-- known whether the empty word is one of these
pub record HasPairs (m : PlainModel) (g : PlainLayout) (t : Places) (may_be_empty : Bool) : Type 0
  where
    pub particle : PlainPart
    pub is : m ≡ children particle
    pub words : (w : List ℕ) → HasWord g w ↔ Matches particle w
    pub places : HasPlaces g t
    pub empty_word : may_be_empty ≡ has_empty_word g

abbrev pub IsFormOf : PlainModel → Form → Type 0
IsFormOf m Own = Unit {0}
IsFormOf m (Listed s) = HasListed m s
IsFormOf m (Pairs layout places b) = HasPairs m (plain_layout layout) places b
