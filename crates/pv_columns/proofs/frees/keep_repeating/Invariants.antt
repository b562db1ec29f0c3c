use Rattle.std.proofs.Common.{length, ℕ, ◌<◌, ◌≡◌}
use Rattle.pv_columns.specs.Marks.{IsMarked}
use Rattle.pv_columns.specs.Bits.{HasIn}
use Rattle.pv_columns.proofs.frees.keep_repeating.Given as goal

abbrev pub invariant-loop-column : goal.invariant-loop-column
invariant-loop-column l = record {
  long : length l.frees ≡ length l.initial.frees;
  fewer : (c : ℕ) → IsMarked l.frees c → IsMarked l.initial.frees c;
  within : (c : ℕ) → c < l.column → IsMarked l.frees c → (k : ℕ) → HasIn l.layer c k → HasIn l.repeats c k;
}
