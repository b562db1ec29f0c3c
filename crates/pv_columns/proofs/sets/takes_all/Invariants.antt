use Rattle.std.proofs.Common.{get_or, ℕ, ◌<◌, ◌≡◌}
use Rattle.pv_columns.specs.Bits.{bit}
use Rattle.pv_columns.specs.declared.sets.Layer.{Layer}
use Rattle.pv_columns.proofs.sets.takes_all.Given as goal

abbrev pub invariant-loop-layer : goal.invariant-loop-layer
invariant-loop-layer l = (m : ℕ) (d : Layer) → m < l.layer-index → (k : ℕ) →
    bit (get_or (get_or l.layers m d).words.items l.small 0) k ≡ 1 →
    bit (get_or (get_or l.layers m d).words.items l.big 0) k ≡ 1
