use Rattle.std.proofs.Common.{Contains, ℕ, ◌<◌}
use Rattle.pv_reach.proofs.columns.order.rule_order.Given as goal

abbrev pub invariant-loop-number : goal.invariant-loop-number
invariant-loop-number l = (x : ℕ) → x < l.number → Contains l.numbers.items x
