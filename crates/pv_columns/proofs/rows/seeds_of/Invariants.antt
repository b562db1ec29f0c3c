use Rattle.std.proofs.Common.{Contains, get_or, length, ℕ, ◌<◌, ◌≡◌}
use Rattle.pv_columns.specs.declared.rules.ColumnRule.{ColumnRule}
use Rattle.pv_columns.specs.Bits.{HasIn}
use Rattle.pv_columns.specs.Rows.{HasSeed, IsSeedOf}
use Rattle.pv_columns.proofs.rows.seeds_of.Given as goal

abbrev pub invariant-loop-rule : goal.invariant-loop-rule
invariant-loop-rule l = record {
  long : length l.layer.items ≡ l.width;
  sound : (c k : ℕ) → HasIn l.layer.items c k → (r : ColumnRule) × Contains l.rules r × IsSeedOf l.live l.layer_number r c k;
  complete : (k : ℕ) (d : ColumnRule) → k < l.rule-index → HasSeed l.live l.layer_number l.layer.items (get_or l.rules k d);
}
