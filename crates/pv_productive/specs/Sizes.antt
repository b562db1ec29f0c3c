-- The least number of elements of a good element, cut.
use Rattle.std.specs.Prelude.{suc, ℕ, ◌<◌, ◌≤◌}
use Rattle.pv_dtd.specs.Hedge.{AreGood, Fits, Hedge, elements}
use Rattle.pv_dtd.specs.Plain.{PlainDtd}
use Rattle.pv_dtd.specs.Productive.{IsLeastSize, IsProductive}
use Rattle.pv_rules.specs.Derivations.{heaviest}

-- some element of number y is good, and n is the least size of one, where that is at most
-- 1,000,000, and else 1,000,001
pub record IsCutSize (g : PlainDtd) (y n : ℕ) : Type 0 where
  pub productive : IsProductive g y
  pub bounded : n ≤ heaviest
  pub reached : n < heaviest → IsLeastSize g y n
  pub least : (k : Hedge) → Fits g y k → AreGood g k → n ≤ suc (elements k)
