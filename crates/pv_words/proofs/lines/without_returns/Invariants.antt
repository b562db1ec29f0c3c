use Rattle.std.proofs.Common.{◌≡◌, ◌≤◌, length, take}
use Rattle.pv_words.specs.Lines.{without_returns}
use Rattle.pv_words.proofs.lines.without_returns.Given as goal

abbrev pub invariant-loop-end : goal.invariant-loop-end
invariant-loop-end l = (l.end ≤ length l.line) × (without_returns (take l.end l.line) ≡ without_returns l.line)

abbrev pub decreases-loop-end : goal.decreases-loop-end
decreases-loop-end l = l.end
