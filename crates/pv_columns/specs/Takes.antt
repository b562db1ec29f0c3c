-- Which tokens a column takes, and which columns take theirs in any order and number.
use Rattle.std.specs.Prelude.{Bool, Contains, List, None, Some, [], slice_get, ℕ, ◌<◌, ◌∷◌, ◌≡◌}
use Rattle.std.specs.Prelude.{◌≤◌}
use Rattle.pv_model.specs.declared.models.Token.{Token}
use Rattle.pv_columns.specs.Marks.{AreMarked, IsAmong, IsMarked}
use Rattle.pv_columns.specs.declared.rules.ColumnRule.{ColumnRule}

module _ (rules : List ColumnRule) (marks : List Bool) where
  -- by a rule whose columns are all live: its token, and what one of its columns takes
  pub data Takes (t : Token) : ℕ → Type 0 where
    takes_token : (c : ℕ) (r : ColumnRule) → Contains rules r → c ≡ r.left →
        AreMarked marks r.columns.items → r.token ≡ Some t → Takes t c
    takes_column : (c d : ℕ) (r : ColumnRule) → Contains rules r → c ≡ r.left →
        AreMarked marks r.columns.items → r.token ≡ None →
        IsAmong d r.columns.items → Takes t d → Takes t c

  -- the column takes the token in front of itself
  pub data Repeats (t : Token) (c : ℕ) : Type 0 where
    repeats_token : (r : ColumnRule) → Contains rules r → c ≡ r.left → r.token ≡ Some t →
        r.columns.items ≡ c ∷ [] → Repeats t c
    repeats_column : (d : ℕ) (r : ColumnRule) → Contains rules r → c ≡ r.left → r.token ≡ None →
        r.columns.items ≡ d ∷ c ∷ [] →
        Takes t d → Repeats t c

  -- A column is free that takes all its tokens in front of itself, or leads to a free one that
  -- takes as many.
  pub data IsFree : ℕ → Type 0 where
    free_repeats : (c : ℕ) → IsMarked marks c → ((t : Token) → Takes t c → Repeats t c) → IsFree c
    free_leads : (c d : ℕ) (r : ColumnRule) → Contains rules r → c ≡ r.left → r.token ≡ None →
        AreMarked marks r.columns.items →
        IsAmong d r.columns.items → IsFree d → ((t : Token) → Takes t c → Takes t d) → IsFree c

  -- the column takes each token of the span
  abbrev pub TakesEach : List Token → ℕ → ℕ → ℕ → Type 0
  TakesEach word c i j = (k : ℕ) (t : Token) → i ≤ k → k < j → slice_get word k ≡ Some t → Takes t c
