-- The laws of packs, each a statement.
use Rattle.std.specs.Prelude.{◌≡◌, ℕ, List}
use Rattle.pv_cert.specs.Meaning.{Outcome, PackMeans}

-- bytes mean at most one thing
abbrev pub OneMeaning : Type 0
OneMeaning = (bytes : List ℕ) (o p : Outcome) → PackMeans bytes o → PackMeans bytes p → o ≡ p
