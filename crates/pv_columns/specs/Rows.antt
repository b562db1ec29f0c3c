-- Edges and seeds of rules.
use Rattle.std.specs.Prelude.{Bool, Contains, List, None, Some, get_or, length, ℕ, ◌/◌, ◌%◌}
use Rattle.std.specs.Prelude.{◌<◌, ◌≡◌, ◌⊎◌, ◌↔◌}
use Rattle.pv_model.specs.declared.models.Token.{Token}
use Rattle.pv_columns.specs.Marks.{AreMarked, IsAmong}
use Rattle.pv_columns.specs.Takes.{Takes}
use Rattle.pv_columns.specs.declared.rules.ColumnRule.{ColumnRule}
use Rattle.pv_columns.specs.Bits.{HasIn}
use Rattle.pv_columns.specs.Tokens.{token_number}
use Rattle.pv_columns.specs.declared.layers.Edge.{Edge}

abbrev pub edge : ℕ → ℕ → Edge
edge c d = record { from = c; to = d }

-- the edge is one of a rule without a token whose columns are all live
abbrev pub IsEdgeOf : List Bool → ColumnRule → Edge → Type 0
IsEdgeOf live r e = (r.token ≡ None) × AreMarked live r.columns.items × (e.from ≡ r.left) ×
    IsAmong e.to r.columns.items

-- all edges of the rule are there
abbrev pub HasEdges : List Bool → List Edge → ColumnRule → Type 0
HasEdges live edges r = r.token ≡ None → AreMarked live r.columns.items → (k : ℕ) →
    k < length r.columns.items →
    Contains edges (edge r.left (get_or r.columns.items k 0))

pub record AreEdges (rules : List ColumnRule) (live : List Bool) (edges : List Edge) : Type 0 where
  pub sound : (e : Edge) → Contains edges e → (r : ColumnRule) × Contains rules r ×
      IsEdgeOf live r e
  pub complete : (r : ColumnRule) → Contains rules r → HasEdges live edges r

-- edges were added, all of these
pub record AddsEdges (left : ℕ) (columns : List ℕ) (end : ℕ) (old new : List Edge) : Type 0 where
  pub grow : (e : Edge) → Contains old e → Contains new e
  pub only : (e : Edge) → Contains new e → Contains old e ⊎ ((e.from ≡ left) × IsAmong e.to columns)
  pub added : (k : ℕ) → k < end → Contains new (edge left (get_or columns k 0))

-- column c has number k of layer m by the rule's token
abbrev pub IsSeedOf : List Bool → ℕ → ColumnRule → ℕ → ℕ → Type 0
IsSeedOf live m r c k =
    (t : Token) × (r.token ≡ Some t) × AreMarked live r.columns.items × (c ≡ r.left) ×
    (token_number t / 64 ≡ m) × (token_number t % 64 ≡ k)

abbrev pub HasSeed : List Bool → ℕ → List ℕ → ColumnRule → Type 0
HasSeed live m layer r = (t : Token) → r.token ≡ Some t → AreMarked live r.columns.items →
    token_number t / 64 ≡ m →
    HasIn layer r.left (token_number t % 64)

pub record AreSeeds (rules : List ColumnRule) (live : List Bool) (m : ℕ) (layer : List ℕ)
    : Type 0 where
  pub sound : (c k : ℕ) → HasIn layer c k → (r : ColumnRule) × Contains rules r ×
      IsSeedOf live m r c k
  pub complete : (r : ColumnRule) → Contains rules r → HasSeed live m layer r

-- layer m has of each column exactly the tokens that it takes
abbrev pub IsLayer : List ColumnRule → List Bool → ℕ → List ℕ → Type 0
IsLayer rules live m layer = (c : ℕ) (t : Token) → token_number t / 64 ≡ m → HasIn layer c
    (token_number t % 64) ↔ Takes rules live t c
