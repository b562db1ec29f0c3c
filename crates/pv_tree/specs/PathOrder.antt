-- Document order of paths.
use Rattle.std.specs.Prelude.{◌≡◌, ◌<◌, ◌⊎◌, ℕ, List, [], ◌∷◌}
use Rattle.pv_tree.specs.Lists.{Listed}

-- At the first difference this path has the smaller number, or it is a proper front of the other.
abbrev pub IsPathBefore : List ℕ → List ℕ → Type 0
IsPathBefore [] [] = ⊥
IsPathBefore (i ∷ path) [] = ⊥
IsPathBefore [] (j ∷ other) = Unit {0}
IsPathBefore (i ∷ path) (j ∷ other) = (i < j) ⊎ ((i ≡ j) × IsPathBefore path other)

-- the path of this list is before that of the other
abbrev pub IsListBefore : {M : Type 0} → Listed M → Listed M → Type 0
IsListBefore list other = IsPathBefore list.path other.path
