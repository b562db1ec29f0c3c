-- Windows: what a column reaches from the places of a word after one, by as few records as tell it.
use Rattle.std.specs.Prelude.{List, length, slice_index_or, ℕ, ◌<◌, ◌≤◌}
use Rattle.std.specs.List.{All, Contains}
use Rattle.pv_bounds.specs.Fronts.{reaches_at}
use Rattle.pv_bounds.specs.declared.fronts.Fronts.{Fronts}
use Rattle.pv_bounds.specs.declared.fronts.Reach.{Reach}
use Rattle.pv_bounds.specs.declared.windows.Level.{Level}
use Rattle.pv_bounds.specs.declared.windows.Stretch.{Stretch}

-- a record that comes later has no farther place and no farther end
abbrev pub AreFalling : List Stretch → Type 0
AreFalling rs = (a b : ℕ) (d : Stretch) → a ≤ b → b < length rs →
    ((slice_index_or rs b d).place ≤ (slice_index_or rs a d).place) ×
    ((slice_index_or rs b d).end ≤ (slice_index_or rs a d).end)

-- one of the records begins at place k or before it, and ends at this end or after it
abbrev pub TellsEnd : List Stretch → ℕ → ℕ → Type 0
TellsEnd rs k end = (x : Stretch) × Contains rs x × (x.place ≤ k) × (end ≤ x.end)

-- one of the levels, of no more cost, does so for a reach at place k
abbrev pub TellsReach : List Level → ℕ → Reach → Type 0
TellsReach levels k r = (x : Level) × Contains levels x × (x.cost ≤ r.cost) ×
    TellsEnd x.records.items k r.end

-- the records of each level are in order
abbrev pub AllFalling : List Level → Type 0
AllFalling levels = All (λ (x : Level). AreFalling x.records.items) levels

-- nothing that was told is lost
abbrev pub KeepsTold : List Level → List Level → Type 0
KeepsTold old new = (k : ℕ) (r : Reach) → TellsReach old k r → TellsReach new k r

-- the levels tell of each of some reaches at place k
abbrev pub AllTold : List Level → ℕ → List Reach → Type 0
AllTold levels k reaches = (m : ℕ) (d : Reach) → m < length reaches →
    TellsReach levels k (slice_index_or reaches m d)

-- the levels tell of the reaches of column c at all places from i up to n
abbrev pub IsWindow : Fronts → ℕ → ℕ → ℕ → List Level → Type 0
IsWindow fronts c i n levels = (k : ℕ) → i ≤ k → k < n →
    AllTold levels k (reaches_at fronts c k)
