use Rattle.std.proofs.Common.{length, ◌≡◌}
use Rattle.pv_columns.specs.Sets.{AreLayers}
use Rattle.pv_columns.proofs.sets.layers_of.Given as goal

abbrev pub invariant-loop-layer_number : goal.invariant-loop-layer_number
invariant-loop-layer_number l = record {
  count : length l.layers.items ≡ l.layer_number;
  exact : AreLayers l.rules l.live l.layers.items;
}
