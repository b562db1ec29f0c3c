-- A particle laid out beside the places of its names.
use Rattle.std.specs.Prelude.{◌≡◌, ℕ, ◌↔◌, List, [], ◌++◌, map, nat_eq}
use Rattle.std.specs.Option.{option_map_or}
use Rattle.std.specs.HashMap.{get}
use Rattle.pv_model.specs.Plain.{PlainPart, PlainToken, named}
use Rattle.pv_model.specs.Models.{Matches}
use Rattle.pv_model.specs.Layouts.{PlainLayout, HasWord, IsNumbered, places_of}
use Rattle.pv_model.specs.declared.places.Places.{Places}

-- the places of a name so far
abbrev pub listed : Places → ℕ → List ℕ
listed t y = option_map_or (λ v. v.items) (get nat_eq t.by_name y) []

pub record IsLaidOut (p : PlainPart) (g : PlainLayout) (old new : Places) : Type 0 where
  pub words : (w : List ℕ) → HasWord g w ↔ Matches p w
  pub numbers : IsNumbered g old.count new.count
  pub places : (y : ℕ) → listed new y ≡ listed old y ++ places_of g y

-- these are the places of all its names
pub record HasPlaces (g : PlainLayout) (t : Places) : Type 0 where
  pub numbers : IsNumbered g 0 t.count
  pub places : (y : ℕ) → listed t y ≡ places_of g y

-- elements alone, of which the names are a word of the particle
abbrev pub HasTokens : PlainLayout → List PlainToken → Type 0
HasTokens g u = (w : List ℕ) × (u ≡ map named w) × HasWord g w
