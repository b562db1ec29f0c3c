-- Statements of laws.
use Rattle.std.specs.Prelude.{◌≡◌, ℕ, List, codes}
use Rattle.pv_chars.specs.Fronts.{ContainsBytes}
use Rattle.pv_params.specs.Meaning.{Expansion, expanded, Expands}

-- a file has at most one expansion
abbrev pub AtMostOne : Type 0
AtMostOne = (bytes : List ℕ) (e f : Expansion) → Expands bytes e → Expands bytes f → e ≡ f

-- and it has one
abbrev pub AtLeastOne : Type 0
AtLeastOne = (bytes : List ℕ) → (e : Expansion) × Expands bytes e

-- neither `%` nor `<![` stands in the text
pub record HasNothingToExpand (bytes : List ℕ) : Type 0 where
  pub percentless : ContainsBytes bytes (codes "%") → ⊥
  pub sectionless : ContainsBytes bytes (codes "<![") → ⊥

-- such a file comes back as it is
abbrev pub IsUnchanged : Type 0
IsUnchanged = (bytes : List ℕ) → HasNothingToExpand bytes → Expands bytes (expanded bytes)
