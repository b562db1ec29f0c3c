use Rattle.std.proofs.Common.{Some, slice_get, ℕ, ◌<◌, ◌≡◌, ◌≤◌}
use Rattle.pv_model.specs.declared.models.Token.{Token}
use Rattle.pv_columns.specs.Tokens.{IsInRow}
use Rattle.pv_columns.proofs.tokens.run.Given as goal

abbrev pub invariant-loop-place : goal.invariant-loop-place
invariant-loop-place l = (k : ℕ) (t : Token) → l.start ≤ k → k < l.place → slice_get l.word k ≡ Some t → IsInRow l.row t
