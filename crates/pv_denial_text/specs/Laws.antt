-- The laws of denials' texts, each a statement.
use Rattle.std.specs.Prelude.{◌≡◌, ℕ, List}
use Rattle.pv_denial_text.specs.Meaning.{DenialMeans, Outcome}

-- bytes mean at most one thing
abbrev pub OneMeaning : Type 0
OneMeaning = (bytes : List ℕ) (o p : Outcome) → DenialMeans bytes o → DenialMeans bytes p → o ≡ p
