use Rattle.std.proofs.Common.{Contains, Some, slice_get, ℕ, ◌<◌, ◌≡◌}
use Rattle.pv_model.specs.declared.models.Token.{Token}
use Rattle.pv_reach.proofs.tables.free_rules.tokens_of.Given as goal

abbrev pub invariant-loop-token : goal.invariant-loop-token
invariant-loop-token l = (k : ℕ) (t : Token) → k < l.token-index → slice_get l.word k ≡ Some t → Contains l.tokens.items t
