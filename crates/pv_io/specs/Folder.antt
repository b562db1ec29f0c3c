-- A folder's files, as their caller sees them.
use Rattle.std.specs.Prelude.{ℕ, List}

-- the names that may be fetched, how many calls were made, and how many faults were counted
pub record Folder : Type 0 where
  pub names : List (List ℕ)
  pub calls : ℕ
  pub faults : ℕ
