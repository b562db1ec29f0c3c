-- All layers: the set of tokens that each column takes.
use Rattle.std.specs.Prelude.{Bool, Contains, List, Some, get_or, length, ℕ, ◌/◌, ◌<◌, ◌≡◌}
use Rattle.pv_model.specs.declared.models.Token.{Token}
use Rattle.pv_columns.specs.Takes.{Takes}
use Rattle.pv_columns.specs.declared.rules.ColumnRule.{ColumnRule}
use Rattle.pv_columns.specs.Rows.{IsLayer}
use Rattle.pv_columns.specs.Tokens.{token_number}
use Rattle.pv_columns.specs.declared.sets.Layer.{Layer}

abbrev pub AreLayers : List ColumnRule → List Bool → List Layer → Type 0
AreLayers rules live layers = (m : ℕ) (d : Layer) → m < length layers → IsLayer rules live m
    (get_or layers m d).words.items

-- the tokens of the rules have numbers below those of so many layers
abbrev pub AreTokensBelow : ℕ → List ColumnRule → Type 0
AreTokensBelow count rules = (r : ColumnRule) (t : Token) → Contains rules r → r.token ≡ Some t →
    token_number t / 64 < count

-- what the second column takes, the first takes
abbrev pub TakesAll : List ColumnRule → List Bool → ℕ → ℕ → Type 0
TakesAll rules live big small = (t : Token) → Takes rules live t small → Takes rules live t big
