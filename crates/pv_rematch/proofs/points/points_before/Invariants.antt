use Rattle.std.proofs.Common.{◌≡◌, ◌≤◌, take}
use Rattle.pv_rematch.specs.Points.{span}
use Rattle.pv_rematch.proofs.points.points_before.Given as goal

abbrev pub invariant-loop-count : goal.invariant-loop-count
invariant-loop-count l = (l.place ≡ span (take l.count l.points)) × (l.place ≤ l.from)
