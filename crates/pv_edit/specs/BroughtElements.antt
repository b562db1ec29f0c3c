-- What a change brings into a list, and which lists it changes.
use Rattle.std.specs.Prelude.{Bool, List, [], false, length, true, ℕ, ◌++◌, ◌∷◌, ◌≡◌}
use Rattle.std.specs.List.{AllByRecursion, list_any}
use Rattle.pv_tree.specs.Places.{kids_of}
use Rattle.pv_tree.specs.Plain.{is_element}
use Rattle.pv_edit.specs.Changes.{Change, Filling, others, around, inner, named}

-- the filling has an element of its own, whose list is new or has a new owner's name
abbrev pub brings_element : {M : Type 0} → Filling M → Bool
brings_element (others trees) = list_any is_element trees
brings_element (around name attrs ending mark) = true
brings_element inner = false
brings_element (named name) = true

-- new trees have no kids, and an element among them comes alone
abbrev pub BringsBare : {M : Type 0} → Filling M → Type 0
BringsBare (others trees) = AllByRecursion (λ t. kids_of t ≡ []) trees ×
    (list_any is_element trees ≡ true → length trees ≡ 1)
BringsBare (around name attrs ending mark) = Unit {0}
BringsBare inner = Unit {0}
BringsBare (named name) = Unit {0}

-- the lists that a change changes, by their paths after it
abbrev pub lists_changed : {M : Type 0} → Change M → List (List ℕ)
lists_changed c = c.list ∷ below (brings_element c.filling)
  where
    below : Bool → List (List ℕ)
    below true = (c.list ++ c.from ∷ []) ∷ []
    below false = []
