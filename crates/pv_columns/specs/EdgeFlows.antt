-- What columns have by edges: each has what those have that it leads to.
use Rattle.std.specs.Prelude.{All, Contains, List, bit_or, length, slice_index, ℕ, ◌<◌, ◌≡◌, ◌≢◌}
use Rattle.pv_columns.specs.Bits.{HasIn}
use Rattle.pv_columns.specs.declared.layers.Edge.{Edge}

pub data Flows (edges : List Edge) (seeds : List ℕ) : ℕ → ℕ → Type 0 where
  flows_seed : (c k : ℕ) → HasIn seeds c k → Flows edges seeds c k
  flows_along : (c k : ℕ) (e : Edge) → Contains edges e → c ≡ e.from → Flows edges seeds e.to k →
      Flows edges seeds c k

abbrev pub EdgesInRange : ℕ → List Edge → Type 0
EdgesInRange width edges = All (λ e. (e.from < width) × (e.to < width)) edges

abbrev pub AreAttained : List Edge → List ℕ → List ℕ → Type 0
AreAttained edges seeds layer = (c k : ℕ) → HasIn layer c k → Flows edges seeds c k

abbrev pub Grow : List ℕ → List ℕ → Type 0
Grow old new = (c k : ℕ) → HasIn old c k → HasIn new c k

abbrev pub Holds : List ℕ → Edge → Type 0
Holds layer e = (k : ℕ) → HasIn layer e.to k → HasIn layer e.from k

abbrev pub AreClosed : List Edge → List ℕ → Type 0
AreClosed edges layer = (e : Edge) → Contains edges e → Holds layer e

-- the word of the edge's column is joined with that of the one that it leads to
pub record Joins (e : Edge) (old new : List ℕ) : Type 0 where
  pub long : length new ≡ length old
  pub here : slice_index new e.from ≡ bit_or (slice_index old e.from) (slice_index old e.to)
  pub others : (c : ℕ) → c ≢ e.from → slice_index new c ≡ slice_index old c
