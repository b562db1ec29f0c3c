use Rattle.std.proofs.Common.{Some, length, slice_get, ℕ, ◌≡◌}
use Rattle.pv_productive.specs.PlainForms.{dtd_of}
use Rattle.pv_denial.specs.RowForms.{IsMost}
use Rattle.pv_denial.proofs.names.most_of_names.Given as goal

abbrev pub invariant-loop-place : goal.invariant-loop-place
invariant-loop-place l = record {
  long : length l.all.items ≡ l.place;
  each : (i m : ℕ) → slice_get l.all.items i ≡ Some m → IsMost (dtd_of l.grammar) l.barrier i m;
}
