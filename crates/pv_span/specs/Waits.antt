-- Columns whose values over the span at hand fell, which wait until the values of those that
-- mention them have been lowered.
use Rattle.std.specs.Prelude.{Bool, List, [], false, length, slice_index_or, true, ℕ}
use Rattle.std.specs.Prelude.{◌+◌, ◌∷◌, ◌≡◌, ◌≤◌, ◌⊎◌}
use Rattle.pv_model.specs.Plain.{PlainToken}
use Rattle.pv_rules.specs.Derivations.{sum_of}
use Rattle.pv_productive.specs.Tables.{IsLowered, capped, no_size, size_at}
use Rattle.pv_span.specs.Charts.{PlainChart, value_of}
use Rattle.pv_layout.specs.ColumnRules.{Cell, ColumnRule, FormRule, IsRightSide, cell}
use Rattle.pv_layout.specs.Forms.{PlainForm}
use Rattle.pv_span.specs.declared.waiting.Waiting.{Waiting}

-- the column waits
abbrev pub Waits : Waiting → ℕ → Type 0
Waits v d = slice_index_or v.flags.items d false ≡ true

module _ (f : List PlainForm) (w : List PlainToken) (i j : ℕ) (P : ℕ → Type 0) (t : PlainChart)
    (c : ℕ) where
  -- a rule of column c lowers nothing, or P holds of a column on its right, over the same span
  abbrev pub IsHeldBy : ℕ → List Cell → Type 0
  IsHeldBy n xs = (value_of t (cell c i j) ≤ capped (n + sum_of (value_of t) xs)) ⊎
      ((d : ℕ) × IsRightSide (cell d i j) xs × P d)

  -- so do all rules of the column
  abbrev pub IsHeld : Type 0
  IsHeld = (n : ℕ) (xs : List Cell) → ColumnRule f w (cell c i j) n xs → IsHeldBy n xs

-- in the new chart so do the rules of column c that have one on their right, over the same span,
-- whose value wasn't less than v
abbrev pub IsHeldFrom : List PlainForm → List PlainToken → ℕ → ℕ → (ℕ → Type 0) → PlainChart →
    PlainChart → ℕ → ℕ → Type 0
IsHeldFrom f w i j P old new c v = (n : ℕ) (xs : List Cell) (d : ℕ) →
    ColumnRule f w (cell c i j) n xs → IsRightSide (cell d i j) xs → v ≤ size_at old.row d →
    IsHeldBy f w i j P new c n xs

-- so do the rules of all columns
abbrev pub AreHeld : List PlainForm → List PlainToken → ℕ → ℕ → (ℕ → Type 0) → PlainChart → Type 0
AreHeld f w i j P t = (c : ℕ) → IsHeld f w i j P t c

-- each rule of what stands in a column goes over to one other column over the same span
abbrev pub IsToldByOthers : List PlainToken → ℕ → ℕ → PlainForm → Type 0
IsToldByOthers w i j p = (c n : ℕ) (xs : List Cell) → FormRule w c i j n xs p →
    (d : ℕ) × (xs ≡ cell d i j ∷ [])

-- the columns that have a value wait
abbrev pub AllWait : Waiting → List ℕ → Type 0
AllWait v row = (d : ℕ) → (no_size ≤ size_at row d) ⊎ Waits v d

-- values fell, and the columns whose values did wait
pub record HaveFallen (before behind : Waiting) (old new : List ℕ) : Type 0 where
  pub each : (d : ℕ) → (size_at new d ≡ size_at old d) ⊎
      ((size_at new d ≤ size_at old d) × Waits behind d)
  pub kept : (d : ℕ) → Waits before d → Waits behind d
  pub long : length behind.flags.items ≡ length before.flags.items

-- the value of a column is lowered to a sum of which P holds, cut
pub record IsLoweredTo (P : ℕ → Type 0) (old new : List ℕ) (c : ℕ) (changed : Bool) :
    Type 0 where
  pub sum : ℕ
  pub is_sum : P sum
  pub lowered : IsLowered old new c (capped sum) changed
