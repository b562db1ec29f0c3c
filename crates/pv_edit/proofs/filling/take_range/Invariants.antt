use Rattle.std.proofs.Common.{◌≡◌, ◌+◌, ◌++◌, vec_capacity, vec_len}
use Rattle.std.specs.Vec.Iter.{drain_items, drain_len}
use Rattle.pv_edit.proofs.filling.take_range.Given as goal

abbrev pub invariant-loop-kid : goal.invariant-loop-kid
invariant-loop-kid l = record {
  items : l.taken.items ++ drain_items l.kid-iterator
      ≡ l.initial.taken.items ++ drain_items l.initial.kid-iterator;
  count : vec_len l.taken + drain_len l.kid-iterator
      ≡ vec_len l.initial.taken + drain_len l.initial.kid-iterator;
  capacity : vec_capacity l.taken ≡ vec_capacity l.initial.taken;
}
