use Rattle.std.proofs.Common.{get_or, length, ℕ, ◌<◌, ◌≤◌}
use Rattle.pv_bounds.specs.declared.windows.Stretch.{Stretch}
use Rattle.pv_bounds.proofs.windows.ending_behind.Given as goal

abbrev pub invariant-nearer : goal.invariant-nearer
invariant-nearer l = record {
  within : l.kept ≤ length l.records;
  others : (m : ℕ) (d : Stretch) → l.kept ≤ m → m < length l.records →
      (get_or l.records m d).end ≤ l.end;
}

abbrev pub decreases-nearer : goal.decreases-nearer
decreases-nearer l = l.kept
