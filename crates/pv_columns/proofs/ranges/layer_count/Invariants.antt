use Rattle.std.proofs.Common.{Some, get_or, ℕ, ◌/◌, ◌<◌, ◌^◌, ◌≡◌}
use Rattle.pv_model.specs.declared.models.Token.{Token}
use Rattle.pv_columns.specs.Tokens.{token_number}
use Rattle.pv_columns.specs.declared.rules.ColumnRule.{ColumnRule}
use Rattle.pv_columns.proofs.ranges.layer_count.Given as goal

abbrev pub invariant-loop-rule : goal.invariant-loop-rule
invariant-loop-rule l = record {
  below : (k : ℕ) (d : ColumnRule) (t : Token) → k < l.rule-index → (get_or l.rules k d).token ≡ Some t → token_number t / 64 < l.count;
  few : l.count < 2 ^ 32;
}
