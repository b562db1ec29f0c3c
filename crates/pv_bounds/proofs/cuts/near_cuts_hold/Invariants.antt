use Rattle.std.proofs.Common.{ℕ, ◌+◌, ◌<◌, ◌≤◌}
use Rattle.pv_bounds.specs.Fronts.{cost_from}
use Rattle.pv_bounds.proofs.cuts.near_cuts_hold.Given as goal

abbrev pub invariant-loop-cut : goal.invariant-loop-cut
invariant-loop-cut l = (k j : ℕ) → l.place < k → k < l.cut →
    cost_from l.claim.fronts.now l.pair.column l.place j ≤
    cost_from l.claim.fronts.now l.pair.first l.place k +
    cost_from l.claim.fronts.now l.pair.second k j
