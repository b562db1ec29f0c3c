use Rattle.std.proofs.Common.{get_or, length, ℕ, ◌<◌, ◌≡◌}
use Rattle.pv_reach.proofs.graph.sweep.numbers_below.Given as goal

abbrev pub invariant-loop-number : goal.invariant-loop-number
invariant-loop-number l = record {
  long : length l.numbers.items ≡ l.number;
  own : (k : ℕ) → k < l.number → get_or l.numbers.items k 0 ≡ k;
}
