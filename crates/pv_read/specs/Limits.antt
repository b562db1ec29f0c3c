-- The limits of a text, which stand beside its grammar.
use Rattle.std.specs.Prelude.{◌≤◌, ℕ, Option, Some, None}

-- how many elements may stand one inside another, where there is a limit, and how many bytes
pub record TextLimits : Type 0 where
  pub depth : Option ℕ
  pub bytes : ℕ

-- so many elements may stand one inside another
abbrev pub IsWithinDepth : Option ℕ → ℕ → Type 0
IsWithinDepth None depth = Unit {0}
IsWithinDepth (Some most) depth = depth ≤ most

-- inside so many elements no other may stand
abbrev pub IsDeepest : Option ℕ → ℕ → Type 0
IsDeepest None depth = ⊥
IsDeepest (Some most) depth = most ≤ depth

-- the first of two limits of depth is no more than the second, where there is a second
abbrev pub IsNoDeeper : Option ℕ → Option ℕ → Type 0
IsNoDeeper depth None = Unit {0}
IsNoDeeper None (Some most) = ⊥
IsNoDeeper (Some depth) (Some most) = depth ≤ most

-- The second limits allow all that the first do.
pub record AreWider (limits wider : TextLimits) : Type 0 where
  pub depth : IsNoDeeper limits.depth wider.depth
  pub bytes : limits.bytes ≤ wider.bytes
