-- How many tokens of a word are without a property, as that a content model allows them alone.
use Rattle.std.specs.Prelude.{◌≡◌, ℕ, suc, ◌⊎◌, List, [], ◌∷◌}
use Rattle.pv_model.specs.Plain.{PlainModel, empty, any, mixed, children, PlainToken}
use Rattle.pv_model.specs.Models.{Allows}

-- n of the tokens are without the property
abbrev pub AreWithout : (PlainToken → Type 0) → List PlainToken → ℕ → Type 0
AreWithout P [] n = n ≡ 0
AreWithout P (t ∷ w) n = (P t × AreWithout P w n) ⊎
    ((m : ℕ) × (P t → ⊥) × (n ≡ suc m) × AreWithout P w m)

-- the model allows the token alone, where so many names are declared
abbrev pub IsAllowedAlone : ℕ → PlainModel → PlainToken → Type 0
IsAllowedAlone declared m t = Allows declared m (t ∷ [])

-- EMPTY, ANY and mixed content: the model allows a word exactly if it allows each token alone (XML
-- 1.0, 3, Element Valid)
abbrev pub JudgesAlone : PlainModel → Type 0
JudgesAlone empty = Unit {0}
JudgesAlone any = Unit {0}
JudgesAlone (mixed ys) = Unit {0}
JudgesAlone (children p) = ⊥
