-- Content models and words as plain data (XML 1.0, section 3.2).
use Rattle.std.specs.Prelude.{ℕ, List, [], ◌∷◌}

-- a content particle, its names by their numbers (XML 1.0, 3.2.1)
mutual
  pub data PlainPart : Type 0 where
    name : ℕ → PlainPart
    seq : PlainParts → PlainPart
    choice : PlainParts → PlainPart
    opt : PlainPart → PlainPart
    star : PlainPart → PlainPart
    plus : PlainPart → PlainPart

  pub data PlainParts : Type 0 where
    no_parts : PlainParts
    part : PlainPart → PlainParts → PlainParts

-- EMPTY, ANY, mixed of the names with these numbers, or element content of this particle (XML 1.0,
-- 3.2)
pub data PlainModel : Type 0 where
  empty : PlainModel
  any : PlainModel
  mixed : List ℕ → PlainModel
  children : PlainPart → PlainModel

-- an element of this name, data, or an element whose name the DTD doesn't have
pub data PlainToken : Type 0 where
  named : ℕ → PlainToken
  text : PlainToken
  other : PlainToken

-- particles in a list, as the members of a sequence or choice
abbrev pub parts_of : List PlainPart → PlainParts
parts_of [] = no_parts
parts_of (p ∷ ps) = part p (parts_of ps)
