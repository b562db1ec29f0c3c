-- Bounds of lists that are added up.
use Rattle.std.specs.Prelude.{List, ℕ, ◌+◌, ◌≤◌}
use Rattle.pv_dtd.specs.Plain.{PlainDtd}
use Rattle.pv_tree.specs.Lists.{Listed}
use Rattle.pv_missing.specs.ListWeights.{BoundInAll}

-- The lists have bounds, and what is added for them is no more than the sum of these.
pub record AreBounded {M : Type 0} (g : PlainDtd) (root : List ℕ) (lists : List (Listed M))
    (old new : ℕ) : Type 0 where
  pub sum : ℕ
  pub bounds : BoundInAll g root lists sum
  pub added : new ≤ old + sum
