-- Which kids of a list have a token in its word.
use Rattle.std.specs.Prelude.{Bool, List, [], false, map, suc, true, ℕ, ◌∷◌}
use Rattle.pv_tree.specs.Heads.{has_token, heads_of}
use Rattle.pv_tree.specs.Plain.{Forest}

-- of each kid whether it has a token
abbrev pub shown_of : {M : Type 0} → Forest M → List Bool
shown_of kids = map has_token (heads_of kids)

-- how many kids have one
abbrev pub number_shown : List Bool → ℕ
number_shown [] = 0
number_shown (true ∷ shown) = suc (number_shown shown)
number_shown (false ∷ shown) = number_shown shown
