use Rattle.std.proofs.Common.{◌≡◌, ◌≤◌, drop}
use Rattle.pv_dtd.specs.ItemReading.{opens_too_many}
use Rattle.pv_dtd.proofs.faults.opens_too_many.Given as goal

abbrev pub invariant-loop-b : goal.invariant-loop-b
invariant-loop-b l = record {
  same : opens_too_many l.opened l.closed (drop l.b-index l.bytes) ≡ opens_too_many 0 0 l.bytes;
  opened : l.opened ≤ l.b-index;
  closed : l.closed ≤ l.b-index;
}
