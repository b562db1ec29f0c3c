use Rattle.std.proofs.Common.{take}
use Rattle.std.specs.List.{AllByRecursion}
use Rattle.pv_standoff.specs.Ranges.{IsInsideText}
use Rattle.pv_standoff.proofs.refusing.first_outside.Given as goal

abbrev pub invariant-loop-k : goal.invariant-loop-k
invariant-loop-k l = AllByRecursion (IsInsideText l.len) (take l.k l.ranges)
