use Rattle.std.proofs.Common.{get_or, length, ℕ, ◌<◌, ◌≡◌}
use Rattle.pv_columns.specs.declared.sets.Layer.{Layer}
use Rattle.pv_columns.proofs.free_sets.set_of.Given as goal

abbrev pub invariant-loop-layer : goal.invariant-loop-layer
invariant-loop-layer l = record {
  long : length l.words.items ≡ l.layer-index;
  words : (m : ℕ) (d : Layer) → m < l.layer-index → get_or l.words.items m 0 ≡ get_or (get_or l.layers m d).words.items l.column 0;
}
