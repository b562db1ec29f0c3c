-- Tables of furthest places: a row of columns for each place. A cell is one past the furthest place
-- that its column reaches from its row's place, and 0 where it reaches none.
use Rattle.std.specs.Prelude.{◌≡◌, ◌≤◌, ◌<◌, ℕ, zero, suc, ◌+◌, ◌*◌, ◌-◌, List, [], ◌∷◌, Contains}
use Rattle.std.specs.Prelude.{slice_index, length, sum_by}
use Rattle.pv_model.specs.declared.models.Token.{Token}
use Rattle.pv_columns.specs.declared.rules.ColumnRule.{ColumnRule}
use Rattle.pv_columns.specs.ColumnRules.{ReadsToken, ReadThrough}

-- what the table has for a column at a place
abbrev pub cell_at : ℕ → List ℕ → ℕ → ℕ → ℕ
cell_at width table c i = slice_index table (i * width + c)

abbrev pub onward : ℕ → (ℕ → ℕ) → ℕ
onward zero f = 0
onward (suc k) f = f k

-- one past where the columns lead, each from the furthest place of the one before it
abbrev pub past : ℕ → List ℕ → List ℕ → ℕ → ℕ
past width table [] i = suc i
past width table (c ∷ cs) i = onward (cell_at width table c i) (past width table cs)

pub record IsTable (word : List Token) (width : ℕ) (table : List ℕ) : Type 0 where
  pub long : length table ≡ suc (length word) * width
  pub bounded : (k : ℕ) → slice_index table k ≤ suc (length word)

-- each cell is reached
pub record IsReachedTable (rules : List ColumnRule) (word : List Token) (width : ℕ) (table : List ℕ)
    : Type 0 where
  pub reaches : (c i j : ℕ) → c < width → i ≤ length word → cell_at width table c i ≡ suc j →
      ReadThrough rules word (c ∷ []) i j

-- from this place the rule offers no more than its cell has
abbrev pub RaisesNothing : List Token → ℕ → List ℕ → ℕ → ColumnRule → Type 0
RaisesNothing word width table i r = (m : ℕ) → ReadsToken word r.token i m →
    past width table r.columns.items m ≤ cell_at width table r.left i

-- the rules are among these
abbrev pub AreAmong : List ColumnRule → List ColumnRule → Type 0
AreAmong some all = (r : ColumnRule) → Contains some r → Contains all r

pub record IsClosedAt (rules : List ColumnRule) (word : List Token) (width : ℕ) (table : List ℕ)
    (i : ℕ) : Type 0 where
  pub holds : (r : ColumnRule) → Contains rules r → RaisesNothing word width table i r

-- from this place on, no derivation goes beyond its cell
pub record IsComplete (rules : List ColumnRule) (word : List Token) (width : ℕ) (table : List ℕ)
    (from : ℕ) : Type 0 where
  pub beyond : (c i j : ℕ) → c < width → from ≤ i → i ≤ length word →
      ReadThrough rules word (c ∷ []) i j → j < cell_at width table c i

-- each cell holds the furthest place: it is attained, and nothing goes beyond it
pub record IsFurthest (rules : List ColumnRule) (word : List Token) (width : ℕ) (table : List ℕ)
    : Type 0 where
  pub sized : IsTable word width table
  pub attained : IsReachedTable rules word width table
  pub complete : IsComplete rules word width table 0

-- how far the cells can still rise
abbrev pub room : ℕ → List ℕ → ℕ
room most table = sum_by (λ v. most - v) table
