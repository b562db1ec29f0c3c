-- Barriers: for each site and place a place that no derivation from there leads beyond.
use Rattle.std.specs.Prelude.{List, Option, Some, length, ℕ, ◌≡◌, ◌≤◌}
use Rattle.std.specs.List.{AllByRecursion}
use Rattle.pv_model.specs.Plain.{PlainToken}
use Rattle.pv_dtd.specs.Plain.{PlainDtd}
use Rattle.pv_rules.specs.Derivations.{IsClosedSet}
use Rattle.pv_rules.specs.Rules.{Goal, Rule}
use Rattle.pv_rules.specs.Sites.{PlainSite}

-- The row of the site has a value at the place where the goal begins, and the goal ends at it or
-- before. A row is none at the places from which its site derives nothing.
abbrev pub IsWithinRows : (PlainSite → ℕ → Option ℕ) → Goal → Type 0
IsWithinRows rows x = (k : ℕ) × (rows x.site x.from ≡ Some k) × (x.to ≤ k)

-- where all right sides of a rule are within the rows, so is its left side
abbrev pub IsBarrier : PlainDtd → List PlainToken → (PlainSite → ℕ → Option ℕ) → Type 0
IsBarrier g w rows = IsClosedSet (Rule g w) (IsWithinRows rows)

-- each value is a place of the word, at its own place or after it, and the values of a row don't fall
pub record AreRising (w : List PlainToken) (rows : PlainSite → ℕ → Option ℕ) : Type 0 where
  pub bounded : (s : PlainSite) (i k : ℕ) → rows s i ≡ Some k → (i ≤ k) × (k ≤ length w)
  pub rising : (s : PlainSite) (i j k : ℕ) → rows s i ≡ Some k → i ≤ j → j ≤ length w →
      (m : ℕ) × (rows s j ≡ Some m) × (k ≤ m)

-- each goal ends where the row of its site says
abbrev pub AreAtRows : (PlainSite → ℕ → Option ℕ) → List Goal → Type 0
AreAtRows rows xs = AllByRecursion (λ x. rows x.site x.from ≡ Some x.to) xs

-- where the right sides of a rule end where the rows say, its left side is within the rows
abbrev pub IsBarrierAtRows : PlainDtd → List PlainToken → (PlainSite → ℕ → Option ℕ) → Type 0
IsBarrierAtRows g w rows = (x : Goal) (c : ℕ) (xs : List Goal) → Rule g w x c xs →
    AreAtRows rows xs → IsWithinRows rows x
