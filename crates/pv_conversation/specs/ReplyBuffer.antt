-- Replies that are held before they are written.
use Rattle.std.specs.Prelude.{◌≡◌, ℕ, List, ◌++◌, Option}
use Rattle.std.specs.Io.KnownBytes.{Appends}

-- Of these bytes a front was written, and the rest is held.
pub record HoldsReplies (old now : Option (List ℕ)) (held out : List ℕ) : Type 0 where
  pub sent : List ℕ
  pub written : Appends old now sent
  pub is_cut : out ≡ sent ++ held
