use Rattle.std.proofs.Common.{◌≡◌, take}
use Rattle.pv_verdicts.proofs.differences.common_front.Given as goal

abbrev pub invariant-loop-front : goal.invariant-loop-front
invariant-loop-front l = take l.front l.before ≡ take l.front l.after
