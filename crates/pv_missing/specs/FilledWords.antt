-- Which words may stand where an element, or the content of an element, is wanted.
use Rattle.std.specs.Prelude.{List, Some, [], suc, zero, ℕ, ◌++◌, ◌∷◌, ◌≡◌, ◌⊎◌}
use Rattle.pv_model.specs.Plain.{PlainModel, PlainToken, named, other, text}
use Rattle.pv_model.specs.Models.{Allows}
use Rattle.pv_dtd.specs.Plain.{PlainDtd, declared, model_of}
use Rattle.pv_dtd.specs.Productive.{IsProductive}

-- w is cut into one piece for each token of u, in order: data for data, and for a name a piece that
-- R allows
abbrev pub Pieces : (ℕ → List PlainToken → Type 0) → List PlainToken → List PlainToken → Type 0
Pieces R [] w = w ≡ []
Pieces R (named y ∷ u) w = (w1 : List PlainToken) × (w2 : List PlainToken) × (w ≡ w1 ++ w2) ×
    R y w1 × Pieces R u w2
Pieces R (text ∷ u) w = (w2 : List PlainToken) × (w ≡ text ∷ w2) × Pieces R u w2
Pieces R (other ∷ u) w = ⊥

-- w is cut for some word that the model of element number x allows
abbrev pub FillsBy : PlainDtd → (ℕ → List PlainToken → Type 0) → ℕ → List PlainToken → Type 0
FillsBy g R x w = (m : PlainModel) × (model_of g x ≡ Some m) × (u : List PlainToken) ×
    Allows (declared g) m u × Pieces R u w

-- The word may stand where an element of number x is wanted: it is that element, of a productive
-- name, or the content of one that is missing. At most d missing elements stand one inside another.
abbrev pub StandsFor : PlainDtd → ℕ → ℕ → List PlainToken → Type 0
StandsFor g zero x w = IsProductive g x × (w ≡ named x ∷ [])
StandsFor g (suc d) x w = (IsProductive g x × (w ≡ named x ∷ [])) ⊎ FillsBy g (StandsFor g d) x w

-- the word may stand for the content of an element of number x
abbrev pub Fills : PlainDtd → ℕ → ℕ → List PlainToken → Type 0
Fills g d x w = FillsBy g (StandsFor g d) x w

-- the word is possible for the content of an element of number x
abbrev pub IsPossible : PlainDtd → ℕ → List PlainToken → Type 0
IsPossible g x w = (d : ℕ) × Fills g d x w

-- the word is possible for the document node, whose root is to have the number x
abbrev pub IsPossibleRoot : PlainDtd → ℕ → List PlainToken → Type 0
IsPossibleRoot g x w = (d : ℕ) × StandsFor g d x w
