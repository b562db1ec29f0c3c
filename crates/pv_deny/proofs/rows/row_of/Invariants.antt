use Rattle.std.proofs.Common.{Some, length, slice_get, ℕ, ◌≡◌}
use Rattle.pv_rules.specs.PlainForms.{plain_site}
use Rattle.pv_reach.specs.FurthestEnds.{end_told}
use Rattle.pv_deny.proofs.rows.row_of.Given as goal

abbrev pub invariant-loop-from : goal.invariant-loop-from
invariant-loop-from l = record {
  long : length l.values.items ≡ l.from;
  told : (i v : ℕ) → slice_get l.values.items i ≡ Some v → end_told l.reaches (plain_site l.site) i ≡ Some v;
}
