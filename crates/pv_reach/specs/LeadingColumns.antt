-- Columns that lead to others at one place: they reach whatever those reach.
use Rattle.std.specs.Prelude.{Contains, List, [], get_or, length, ℕ, ◌<◌, ◌∷◌}
use Rattle.std.specs.Prelude.{◌≡◌, ◌⊎◌}
use Rattle.pv_model.specs.declared.models.Token.{Token}
use Rattle.pv_columns.specs.ColumnRules.{ReadThrough}
use Rattle.pv_columns.specs.declared.layers.Edge.{Edge}
use Rattle.pv_columns.specs.declared.rules.ColumnRule.{ColumnRule}

-- column c reaches whatever column d reaches
abbrev pub ReadsWhatever : List ColumnRule → ℕ → ℕ → Type 0
ReadsWhatever rules c d = (word : List Token) (i j : ℕ) → ReadThrough rules word (d ∷ []) i j →
    ReadThrough rules word (c ∷ []) i j

-- what column a reaches, it reaches with what q reaches after it
abbrev pub LeadsOnTo : List ColumnRule → ℕ → ℕ → Type 0
LeadsOnTo rules a q = (word : List Token) (h i j : ℕ) → ReadThrough rules word (a ∷ []) h i →
    ReadThrough rules word (q ∷ []) i j → ReadThrough rules word (a ∷ []) h j

-- the edge leads from the rule's column to one on its right
abbrev pub IsRightEdgeOf : ColumnRule → Edge → Type 0
IsRightEdgeOf r e = (k : ℕ) × (k < length r.columns.items) × (e.from ≡ r.left) ×
    (e.to ≡ get_or r.columns.items k 0)

pub record AreRightEdges (rules : List ColumnRule) (edges : List Edge) : Type 0 where
  pub leads : (e : Edge) → Contains edges e → ReadsWhatever rules e.from e.to

-- each of the second edges is one of the first the other way
pub record Turned (edges turned : List Edge) : Type 0 where
  pub back : (e : Edge) → Contains turned e → (f : Edge) × Contains edges f × (f.from ≡ e.to) ×
      (f.to ≡ e.from)

-- edges lead from column c to column d, one after another
pub data Leads (edges : List Edge) : ℕ → ℕ → Type 0 where
  here : (c d : ℕ) → c ≡ d → Leads edges c d
  along : (c d : ℕ) (e : Edge) → Contains edges e → c ≡ e.from → Leads edges e.to d →
      Leads edges c d

-- each column leads to the one that the table has for it
pub record AreLed (edges : List Edge) (table : List ℕ) : Type 0 where
  pub led : (c : ℕ) → c < length table → (get_or table c 0 < length table) ×
      Leads edges c (get_or table c 0)

-- a column's own, or the one that both tables have for it
abbrev pub IsHead : List ℕ → List ℕ → ℕ → ℕ → Type 0
IsHead above below c v = (v ≡ c) ⊎ ((c < length above) × (c < length below) ×
    (v ≡ get_or above c 0) × (v ≡ get_or below c 0))

-- for each column its own, or the one that this table has for it and one of the edges that were
-- turned has too
pub record AreHeads (turned : List Edge) (above heads : List ℕ) : Type 0 where
  pub below : List ℕ
  pub long : length heads ≡ length above
  pub as_long : length below ≡ length above
  pub led : AreLed turned below
  pub are : (c : ℕ) → c < length above → IsHead above below c (get_or heads c 0)

-- each column reaches the same as the one that stands for it
pub record AreAlike (rules : List ColumnRule) (heads : List ℕ) : Type 0 where
  pub alike : (c : ℕ) → c < length heads →
      (get_or heads c 0 < length heads) × ReadsWhatever rules c (get_or heads c 0) ×
      ReadsWhatever rules (get_or heads c 0) c
