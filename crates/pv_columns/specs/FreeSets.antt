-- Sets of tokens for columns that are free.
use Rattle.std.specs.Prelude.{List, None, Some, [], get_or, length, slice_get, slice_index, ℕ}
use Rattle.std.specs.Prelude.{◌<◌, ◌∷◌, ◌≡◌, ◌≤◌, ◌↔◌}
use Rattle.pv_model.specs.declared.models.Token.{Token}
use Rattle.pv_columns.specs.ColumnRules.{ReadThrough, TokensMayBeMissing}
use Rattle.pv_columns.specs.Tokens.{IsInRow}
use Rattle.pv_columns.specs.declared.free_sets.FreeSets.{FreeSets}
use Rattle.pv_columns.specs.declared.free_sets.TokenSet.{TokenSet}
use Rattle.pv_columns.specs.declared.rules.ColumnRule.{ColumnRule}
use Rattle.pv_columns.specs.declared.sets.Layer.{Layer}

-- each token of the span is in the set
abbrev pub AreInRow : List ℕ → List Token → ℕ → ℕ → Type 0
AreInRow row word i j = (k : ℕ) (t : Token) → i ≤ k → k < j → slice_get word k ≡ Some t →
    IsInRow row t

-- over a word whose tokens may be missing, the column reaches over exactly the spans of tokens of
-- the set
abbrev pub IsFreeOver : List ColumnRule → List ℕ → ℕ → Type 0
IsFreeOver rules row c = (word : List Token) → TokensMayBeMissing rules word → (i j : ℕ) → i ≤ j →
    j ≤ length word → ReadThrough rules word (c ∷ []) i j ↔ AreInRow row word i j

-- the row has the column's word of each layer
abbrev pub IsRowOf : List Layer → ℕ → List ℕ → Type 0
IsRowOf layers c row = (length row ≡ length layers) × ((m : ℕ) (d : Layer) → m < length layers →
    slice_index row m ≡ slice_index (get_or layers m d).words.items c)

-- sets that were there are there still, at their places
abbrev pub KeepSets : List TokenSet → List TokenSet → Type 0
KeepSets old new = (k : ℕ) (d : TokenSet) → k < length old →
    (k < length new) × (get_or new k d ≡ get_or old k d)

-- the set at this place is that of the column
abbrev pub IsSetAt : List Layer → ℕ → List TokenSet → ℕ → Type 0
IsSetAt layers c sets k = (k < length sets) ×
    ((d : TokenSet) → IsRowOf layers c (get_or sets k d).words.items)

-- the column at a place whose number is that of a set is free over it
abbrev pub AreFreeSets : List ColumnRule → List ℕ → FreeSets → Type 0
AreFreeSets rules columns free = (x k : ℕ) (d : TokenSet) →
    get_or free.numbers.items x None ≡ Some k →
    (k < length free.sets.items) ×
    IsFreeOver rules (get_or free.sets.items k d).words.items (get_or columns x 0)
