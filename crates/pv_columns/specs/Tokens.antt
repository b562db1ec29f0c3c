-- Tokens by numbers, and sets of them as rows of words.
use Rattle.std.specs.Prelude.{List, Some, length, slice_get, slice_index, ℕ, ◌+◌, ◌/◌, ◌%◌, ◌<◌}
use Rattle.std.specs.Prelude.{◌≡◌, ◌≤◌}
use Rattle.pv_model.specs.declared.models.Token.{Token}
use Rattle.pv_model.specs.declared.models.Token.TheVariants.{Name, Other, Text}
use Rattle.pv_columns.specs.Bits.{bit}

abbrev pub token_number : Token → ℕ
token_number Other = 0
token_number Text = 1
token_number (Name id) = id.0 + 2

-- the token is in the set
abbrev pub IsInRow : List ℕ → Token → Type 0
IsInRow row t = bit (slice_index row (token_number t / 64)) (token_number t % 64) ≡ 1

-- j is the first place from i on whose token isn't in the set, or the end of the word
pub record IsRun (row : List ℕ) (word : List Token) (i j : ℕ) : Type 0 where
  pub behind : i ≤ j
  pub within : j ≤ length word
  pub all : (k : ℕ) (t : Token) → i ≤ k → k < j → slice_get word k ≡ Some t → IsInRow row t
  pub stops : (t : Token) → slice_get word j ≡ Some t → ¬ IsInRow row t
