use Rattle.std.proofs.Common.{List, false, get_or, length, true, ℕ, ◌<◌, ◌≡◌, ◌≤◌}
use Rattle.pv_columns.specs.Bits.{room}
use Rattle.pv_columns.specs.EdgeFlows.{AreAttained, Grow, Holds}
use Rattle.pv_columns.specs.declared.layers.Edge.{Edge}
use Rattle.pv_columns.proofs.layers.raise.Given as goal

abbrev pub invariant-loop-edge : goal.invariant-loop-edge
invariant-loop-edge l = record {
  long : length l.layer ≡ length l.initial.layer;
  attained : (seeds : List ℕ) → AreAttained l.edges seeds l.initial.layer → AreAttained l.edges seeds l.layer;
  grow : Grow l.initial.layer l.layer;
  same : l.changed ≡ false → l.layer ≡ l.initial.layer;
  closed : l.changed ≡ false → (k : ℕ) (d : Edge) → k < l.edge-index → Holds l.initial.layer (get_or l.edges k d);
  less : l.changed ≡ true → room l.layer < room l.initial.layer;
  most : room l.layer ≤ room l.initial.layer;
}
