use Rattle.std.proofs.Common.{◌≡◌, ◌+◌, take}
use Rattle.pv_rematch.specs.Points.{span}
use Rattle.pv_rematch.proofs.points.point_behind.Given as goal

abbrev pub invariant-loop-number : goal.invariant-loop-number
invariant-loop-number l = span (take l.number l.points) + l.left ≡ l.place
