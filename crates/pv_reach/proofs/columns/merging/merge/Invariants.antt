use Rattle.std.proofs.Common.{Contains, length, take, ℕ, ◌<◌}
use Rattle.pv_reach.specs.Merging.{AreMerged, HasMerged}
use Rattle.pv_reach.proofs.columns.merging.merge.Given as goal

abbrev pub invariant-loop-place : goal.invariant-loop-place
invariant-loop-place l = record {
  merged : AreMerged l.rules l.merging l.new.items;
  has : (i : ℕ) → Contains (take l.place l.order) i → i < length l.rules → HasMerged l.rules l.merging l.new.items i;
}
