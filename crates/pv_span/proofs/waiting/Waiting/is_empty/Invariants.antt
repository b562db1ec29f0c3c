use Rattle.std.proofs.Common.{false, ℕ, ◌<◌, ◌≡◌}
use Rattle.pv_span.specs.Waits.{Waits}
use Rattle.pv_span.proofs.waiting.Waiting.is_empty.Given as goal

abbrev pub invariant-loop-place : goal.invariant-loop-place
invariant-loop-place l = l.some ≡ false → (d : ℕ) → d < l.place → Waits l.self d → ⊥
