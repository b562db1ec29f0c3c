-- Columns that reach over no tokens.
use Rattle.std.specs.Prelude.{Bool, Contains, List, None, Some, [], false, get_or, suc, true, zero}
use Rattle.std.specs.Prelude.{ℕ, ◌∷◌, ◌≡◌, ◌⊎◌}
use Rattle.std.specs.List.{AllByRecursion}
use Rattle.pv_model.specs.declared.models.Token.{Token}
use Rattle.pv_columns.specs.ColumnRules.{ReadThrough}
use Rattle.pv_columns.specs.declared.rules.ColumnRule.{ColumnRule}

abbrev pub IsMarked : List Bool → ℕ → Type 0
IsMarked marks c = get_or marks c false ≡ true

-- all of these columns have marks
abbrev pub AreMarked : List Bool → List ℕ → Type 0
AreMarked marks cs = AllByRecursion (IsMarked marks) cs

-- a marked column reaches over no tokens, at every place
pub record AreNullable (rules : List ColumnRule) (marks : List Bool) : Type 0 where
  pub bare : (c : ℕ) → IsMarked marks c → (word : List Token) (p : ℕ) → ReadThrough rules word
      (c ∷ []) p p

-- The marked columns reach over no tokens, at every place; and no other column reaches anything.
pub record AreLiveMarks (rules : List ColumnRule) (word : List Token) (marks : List Bool)
    : Type 0 where
  pub sound : (c p : ℕ) → IsMarked marks c → ReadThrough rules word (c ∷ []) p p
  pub complete : (c i j : ℕ) → ReadThrough rules word (c ∷ []) i j → IsMarked marks c

-- a rule with a token has no columns after it, or its own
pub record ReadAlone (rules : List ColumnRule) : Type 0 where
  pub alone : (r : ColumnRule) (t : Token) → Contains rules r → r.token ≡ Some t →
      (r.columns.items ≡ []) ⊎ (r.columns.items ≡ r.left ∷ [])

-- the column is one of these
abbrev pub IsAmong : ℕ → List ℕ → Type 0
IsAmong d [] = ⊥
IsAmong d (c ∷ cs) = (d ≡ c) ⊎ IsAmong d cs

-- where the rule reads no token and its columns are all marked, its own column is
abbrev pub HoldsMark : List Bool → ColumnRule → Type 0
HoldsMark marks r = r.token ≡ None → AreMarked marks r.columns.items → IsMarked marks r.left

-- no rule marks one column more
abbrev pub AreClosedMarks : List ColumnRule → List Bool → Type 0
AreClosedMarks rules marks = (r : ColumnRule) → Contains rules r → HoldsMark marks r

-- how many columns aren't marked
abbrev pub unmarked : List Bool → ℕ
unmarked [] = zero
unmarked (true ∷ marks) = unmarked marks
unmarked (false ∷ marks) = suc (unmarked marks)
