use Rattle.std.proofs.Common.{length, ℕ, ◌≡◌}
use Rattle.pv_span.specs.Waits.{Waits}
use Rattle.pv_span.proofs.waiting.Waiting.next.Given as goal

abbrev pub invariant-loop : goal.invariant-loop
invariant-loop l = record {
  kept : (d : ℕ) → Waits l.fn.self d → Waits l.self d;
  long : length l.self.flags.items ≡ length l.fn.self.flags.items;
}
