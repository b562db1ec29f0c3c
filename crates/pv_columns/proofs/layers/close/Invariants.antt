use Rattle.std.proofs.Common.{length, ◌≡◌}
use Rattle.pv_columns.specs.Bits.{room}
use Rattle.pv_columns.specs.EdgeFlows.{AreAttained, Grow}
use Rattle.pv_columns.proofs.layers.close.Given as goal

abbrev pub invariant-loop : goal.invariant-loop
invariant-loop l = record {
  long : length l.layer ≡ length l.initial.layer;
  attained : AreAttained l.edges l.initial.layer l.layer;
  grow : Grow l.initial.layer l.layer;
}

abbrev pub decreases-loop : goal.decreases-loop
decreases-loop l = room l.layer
