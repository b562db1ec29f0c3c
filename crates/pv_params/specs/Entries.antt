-- Entities and names as they are read off the tables that keep them.
use Rattle.std.specs.Prelude.{ℕ, List, [], ◌∷◌, Vec}
use Rattle.std.specs.declared.alloc.Global.{Global}
use Rattle.pv_params.specs.Meaning.{Entity}

-- the entity of a name and its text
abbrev pub entity_of : Vec ℕ Global × Vec ℕ Global → Entity
entity_of entry = record { name = entry.0.items; text = entry.1.items }

-- the last of these names first, before the others
abbrev pub last_first_on : List (Vec ℕ Global) → List (List ℕ) → List (List ℕ)
last_first_on [] others = others
last_first_on (name ∷ names) others = last_first_on names (name.items ∷ others)
