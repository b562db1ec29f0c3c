-- Free columns, as they are found.
use Rattle.std.specs.Prelude.{Bool, List, None, Some, [], ℕ, ◌/◌, ◌%◌, ◌<◌, ◌∷◌, ◌≡◌, ◌⊎◌}
use Rattle.pv_model.specs.declared.models.Token.{Token}
use Rattle.pv_columns.specs.Marks.{IsMarked}
use Rattle.pv_columns.specs.Takes.{IsFree, Repeats, Takes}
use Rattle.pv_columns.specs.declared.rules.ColumnRule.{ColumnRule}
use Rattle.pv_columns.specs.Bits.{HasIn}
use Rattle.pv_columns.specs.Tokens.{token_number}

-- the rule repeats its column after number k of layer m
abbrev pub IsRepeatOf : ℕ → List ℕ → ColumnRule → ℕ → ℕ → Type 0
IsRepeatOf m layer r c k = (c ≡ r.left) × (
    ((t : Token) × (r.token ≡ Some t) × (r.columns.items ≡ r.left ∷ []) ×
    (token_number t / 64 ≡ m) ×
    (token_number t % 64 ≡ k)) ⊎
    ((d : ℕ) × (r.token ≡ None) × (r.columns.items ≡ d ∷ r.left ∷ []) × HasIn layer d k))

-- what a column has here, it repeats
abbrev pub AreRepeats : List ColumnRule → List Bool → ℕ → List ℕ → Type 0
AreRepeats rules live m repeats = (c : ℕ) (t : Token) → token_number t / 64 ≡ m → HasIn repeats c
    (token_number t % 64) → Repeats rules live t c

abbrev pub AreFree : List ColumnRule → List Bool → List Bool → Type 0
AreFree rules live frees = (c : ℕ) → IsMarked frees c → IsFree rules live c

-- marked columns repeat what they take of the layers before the m-th
abbrev pub RepeatBefore : List ColumnRule → List Bool → ℕ → List Bool → Type 0
RepeatBefore rules live m frees = (c : ℕ) → IsMarked frees c → IsMarked live c ×
    ((t : Token) → token_number t / 64 < m → Takes rules live t c → Repeats rules live t c)
