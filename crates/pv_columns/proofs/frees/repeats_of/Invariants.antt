use Rattle.std.proofs.Common.{Contains, length, ℕ, ◌≡◌}
use Rattle.pv_columns.specs.declared.rules.ColumnRule.{ColumnRule}
use Rattle.pv_columns.specs.Bits.{HasIn}
use Rattle.pv_columns.specs.Frees.{IsRepeatOf}
use Rattle.pv_columns.proofs.frees.repeats_of.Given as goal

abbrev pub invariant-loop-rule : goal.invariant-loop-rule
invariant-loop-rule l = record {
  long : length l.repeats.items ≡ l.width;
  sound : (c k : ℕ) → HasIn l.repeats.items c k → (r : ColumnRule) × Contains l.rules r × IsRepeatOf l.layer_number l.layer r c k;
}
