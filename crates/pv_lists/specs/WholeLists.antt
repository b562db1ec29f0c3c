-- The lists that are whole where elements are open, in document order.
use Rattle.std.specs.Prelude.{ℕ, ◌+◌, Bool, true, false, List, [], ◌∷◌, ◌++◌, length, Option, Some}
use Rattle.std.specs.Prelude.{None}
use Rattle.std.specs.List.{AllByRecursion}
use Rattle.pv_tree.specs.Plain.{forest_of}
use Rattle.pv_tree.specs.Lists.{Listed, IsFirstNot, lists_from}
use Rattle.pv_tree.specs.declared.nodes.Mark.{Mark}
use Rattle.pv_read.specs.Left.{Open}

-- where the next node stands in these open elements, innermost first: in the innermost of them, or
-- as the root
abbrev pub next_path : List (Open Mark) → List ℕ
next_path [] = 0 ∷ []
next_path (o ∷ os) = next_path os ++ length o.kids ∷ []

-- the lists of elements that have ended
abbrev pub whole_lists : List (Open Mark) → List (Listed Mark)
whole_lists [] = []
whole_lists (o ∷ os) = whole_lists os ++ lists_from (next_path os) 0 (forest_of o.kids)

-- the kids of open elements, in all
abbrev pub kids_in : List (Open Mark) → ℕ
kids_in [] = 0
kids_in (o ∷ os) = length o.kids + kids_in os

-- the path of the first of some lists that isn't so, or none where all are so
abbrev pub TellsFirst : (Listed Mark → Type 0) → List (Listed Mark) → Option (List ℕ) → Type 0
TellsFirst P lists None = AllByRecursion P lists
TellsFirst P lists (Some path) = IsFirstNot P lists path

-- whether one of some lists isn't so
abbrev pub TellsWhether : (Listed Mark → Type 0) → List (Listed Mark) → Bool → Type 0
TellsWhether P lists true = (path : List ℕ) × IsFirstNot P lists path
TellsWhether P lists false = AllByRecursion P lists
