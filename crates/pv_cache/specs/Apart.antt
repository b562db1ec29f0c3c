-- Lists that stay as they are where another one changes.
use Rattle.std.specs.Prelude.{Bool, List, [], false, not, true, ℕ, ◌==◌, ◌||◌, ◌∷◌}

-- the second path isn't the first, and doesn't lead on from it
abbrev pub is_apart : List ℕ → List ℕ → Bool
is_apart [] path = false
is_apart (i ∷ changed) [] = true
is_apart (i ∷ changed) (j ∷ path) = not (i == j) || is_apart changed path
