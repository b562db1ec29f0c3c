-- The items of a DTD text, with names as they are spelled.
use Rattle.std.specs.Prelude.{ℕ, suc, ◌+◌, List, [], ◌∷◌, ◌++◌, length}
use Rattle.std.specs.List.{flat_map}

-- a content particle
mutual
  pub data NamedPart : Type 0 where
    name : List ℕ → NamedPart
    seq : NamedParts → NamedPart
    choice : NamedParts → NamedPart
    opt : NamedPart → NamedPart
    star : NamedPart → NamedPart
    plus : NamedPart → NamedPart

  pub data NamedParts : Type 0 where
    no_parts : NamedParts
    part : NamedPart → NamedParts → NamedParts

pub data NamedModel : Type 0 where
  empty : NamedModel
  any : NamedModel
  mixed : List (List ℕ) → NamedModel
  children : NamedPart → NamedModel

pub data DtdItem : Type 0 where
  text_declaration : DtdItem
  element : (name : List ℕ) → (model : NamedModel) → DtdItem
  skipped : DtdItem
  comment : DtdItem
  instruction : DtdItem

abbrev pub named_parts_of : List NamedPart → NamedParts
named_parts_of [] = no_parts
named_parts_of (p ∷ ps) = part p (named_parts_of ps)

-- the names that stand in a content particle, from left to right
abbrev mutual
  pub spelled_in : NamedPart → List (List ℕ)
  spelled_in (name n) = n ∷ []
  spelled_in (seq ps) = spelled_in_all ps
  spelled_in (choice ps) = spelled_in_all ps
  spelled_in (opt p) = spelled_in p
  spelled_in (star p) = spelled_in p
  spelled_in (plus p) = spelled_in p

  pub spelled_in_all : NamedParts → List (List ℕ)
  spelled_in_all no_parts = []
  spelled_in_all (part p ps) = spelled_in p ++ spelled_in_all ps

abbrev pub spelled_in_model : NamedModel → List (List ℕ)
spelled_in_model (mixed names) = names
spelled_in_model (children p) = spelled_in p
spelled_in_model _ = []

-- the names that a mixed model lists
abbrev pub listed_in_model : NamedModel → List (List ℕ)
listed_in_model (mixed names) = names
listed_in_model _ = []

-- the name that an item declares
abbrev pub declared_by : DtdItem → List (List ℕ)
declared_by (element n model) = n ∷ []
declared_by _ = []

-- the model that it declares
abbrev pub model_in : DtdItem → List NamedModel
model_in (element n model) = model ∷ []
model_in _ = []

-- the names that an item mentions
abbrev pub mentioned_by : DtdItem → List (List ℕ)
mentioned_by (element n model) = spelled_in_model model
mentioned_by _ = []

-- the names that it lists in a mixed model
abbrev pub listed_by : DtdItem → List (List ℕ)
listed_by (element n model) = listed_in_model model
listed_by _ = []

-- the names that items declare, in order
abbrev pub declared_in : List DtdItem → List (List ℕ)
declared_in items = flat_map declared_by items

-- the models that items declare, in order
abbrev pub models_in : List DtdItem → List NamedModel
models_in items = flat_map model_in items

-- the names that models mention, in order
abbrev pub mentioned_in : List NamedModel → List (List ℕ)
mentioned_in models = flat_map spelled_in_model models

-- the nodes of a content particle
abbrev mutual
  pub particles_in : NamedPart → ℕ
  particles_in (name n) = 1
  particles_in (seq ps) = suc (particles_in_all ps)
  particles_in (choice ps) = suc (particles_in_all ps)
  particles_in (opt p) = suc (particles_in p)
  particles_in (star p) = suc (particles_in p)
  particles_in (plus p) = suc (particles_in p)

  pub particles_in_all : NamedParts → ℕ
  particles_in_all no_parts = 0
  particles_in_all (part p ps) = particles_in p + particles_in_all ps

-- the parts of a model: the nodes of a content particle, or the names listed in a mixed model
abbrev pub parts_of_model : NamedModel → ℕ
parts_of_model (mixed names) = length names
parts_of_model (children p) = particles_in p
parts_of_model _ = 0

-- the parts of all models
abbrev pub parts_of_models : List NamedModel → ℕ
parts_of_models [] = 0
parts_of_models (m ∷ ms) = parts_of_model m + parts_of_models ms

-- the parts of the model that an item declares
abbrev pub parts_by : DtdItem → ℕ
parts_by (element n model) = parts_of_model model
parts_by _ = 0
