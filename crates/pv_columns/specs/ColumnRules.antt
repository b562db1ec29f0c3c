-- Which columns derive which spans of a word.
use Rattle.std.specs.Prelude.{◌≡◌, ◌≤◌, ◌<◌, ◌⊎◌, ℕ, suc, List, [], ◌∷◌, Option, Some, None}
use Rattle.std.specs.Prelude.{Contains, All, slice_get}
use Rattle.pv_model.specs.declared.models.Token.{Token}
use Rattle.pv_columns.specs.declared.rules.ColumnRule.{ColumnRule}

-- reading the token at place i leads to place m; reading nothing stays
abbrev pub ReadsToken : List Token → Option Token → ℕ → ℕ → Type 0
ReadsToken word None i m = m ≡ i
ReadsToken word (Some t) i m = (slice_get word i ≡ Some t) × (m ≡ suc i)

-- the columns, one after another, derive the tokens from place i up to place j
pub data ReadThrough (rules : List ColumnRule) (word : List Token) : List ℕ → ℕ → ℕ → Type 0 where
  done : (i j : ℕ) → i ≡ j → ReadThrough rules word [] i j
  by_rule : (c : ℕ) (rest : List ℕ) (r : ColumnRule) (i m k j : ℕ) → Contains rules r → c ≡ r.left →
      ReadsToken word r.token i m →
      ReadThrough rules word r.columns.items m k → ReadThrough rules word rest k j →
      ReadThrough rules word (c ∷ rest) i j

-- a rule holds also without its token, as a missing element stands for one that is there
abbrev pub TokensMayBeMissing : List ColumnRule → List Token → Type 0
TokensMayBeMissing rules word = (r : ColumnRule) (t : Token) (p i j : ℕ) → Contains rules r →
    r.token ≡ Some t → slice_get word p ≡ Some t →
    ReadThrough rules word r.columns.items i j → ReadThrough rules word (r.left ∷ []) i j

-- what reaches a span reaches each span within it, and each empty span
abbrev pub EndsAreIntervals : Type 0
EndsAreIntervals = (rules : List ColumnRule) (word : List Token) → TokensMayBeMissing rules word →
    (cs : List ℕ) (i j a b : ℕ) →
    ReadThrough rules word cs i j → a ≤ b → (a ≡ b) ⊎ ((i ≤ a) × (b ≤ j)) →
    ReadThrough rules word cs a b

-- the rules name no column but these
abbrev pub InRange : ℕ → List ColumnRule → Type 0
InRange width rules = All (λ r. (r.left < width) × All (λ c. c < width) r.columns.items) rules
