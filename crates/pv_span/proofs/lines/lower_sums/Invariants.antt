use Rattle.std.specs.Prelude.{min}
use Rattle.std.proofs.Common.{ℕ, ◌+◌, ◌-◌, ◌<◌, ◌≡◌, ◌≤◌}
use Rattle.pv_productive.specs.Tables.{size_at}
use Rattle.pv_span.proofs.lines.lower_sums.Given as goal

abbrev pub invariant-loop-number : goal.invariant-loop-number
invariant-loop-number l = record {
  lowered : (p : ℕ) → l.place ≤ p → p < l.place + l.number →
      size_at l.least p ≡ min (size_at l.fn.least p) (l.before + size_at l.behind (p - l.place));
  kept : (p : ℕ) → l.place + l.number ≤ p → size_at l.least p ≡ size_at l.fn.least p;
}
