-- A search of a document's lists for the first that isn't so.
use Rattle.std.specs.Prelude.{Bool, List, [], false, true, ℕ, ◌++◌, ◌∷◌}
use Rattle.std.specs.List.{AllByRecursion}
use Rattle.pv_tree.specs.Lists.{IsFirstNot, Listed}

-- P is what is asked of a list, by the name of the root. A says that these lists are those that come
-- next, and B the same of those after them.
abbrev pub PassesAll : {M : Type 0} → (List ℕ → Listed M → Type 0) →
    (List ℕ → List (Listed M) → Type 0) → (List ℕ → List (Listed M) → Type 0) →
    List (Listed M) → Type 0
PassesAll P A B lists = (root : List ℕ) (more : _) → A root (lists ++ more) →
    AllByRecursion (P root) lists × B root more

-- then the list at this path is the first of these that isn't so
abbrev pub StopsAt : {M : Type 0} → (List ℕ → Listed M → Type 0) →
    (List ℕ → List (Listed M) → Type 0) → List (Listed M) → List ℕ → Type 0
StopsAt P A lists path = (root : List ℕ) (more : _) → A root (lists ++ more) →
    IsFirstNot (P root) lists path

-- a test tells whether a list is so
abbrev pub Tells : {M : Type 0} → (List ℕ → Listed M → Type 0) →
    (List ℕ → List (Listed M) → Type 0) → (List ℕ → List (Listed M) → Type 0) →
    Listed M → Bool → Type 0
Tells P A B list true = PassesAll P A B (list ∷ [])
Tells P A B list false = StopsAt P A (list ∷ []) list.path
