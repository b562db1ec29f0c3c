-- The first Impossible list, by its number in document order.
use Rattle.std.specs.Prelude.{List, None, Option, Some, slice_get, ◌≡◌, ◌≢◌, ℕ}
use Rattle.pv_tree.specs.Lists.{Listed}
use Rattle.pv_tree.specs.declared.nodes.Verdict.{Verdict}
use Rattle.pv_tree.specs.declared.nodes.Verdict.TheVariants as verdict
use Rattle.pv_missing.specs.Verdicts.{IsFirstVerdict}

-- the path of the list of this number, where there are so many
abbrev pub IsPathOf : {M : Type 0} → List (Listed M) → ℕ → List ℕ → Type 0
IsPathOf {M} lists k path = (list : Listed M) → slice_get lists k ≡ Some list → path ≡ list.path

-- the path of the list whose number the first Impossible verdict has; none where none is Impossible
abbrev pub IsFirstPath : {M : Type 0} → List (Listed M) → List Verdict → Option (List ℕ) → Type 0
IsFirstPath lists vs None = (k : ℕ) → slice_get vs k ≢ Some verdict.Impossible
IsFirstPath lists vs (Some path) = (k : ℕ) × IsFirstVerdict verdict.Impossible vs k ×
    IsPathOf lists k path
