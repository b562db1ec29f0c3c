use Rattle.std.proofs.Common.{length, ◌-◌, ◌≡◌, ◌≤◌, take, true}
use Rattle.std.specs.Io.KnownBytes.{Appends}
use Rattle.pv_io.specs.Causes.{CountStays}
use Rattle.pv_io.proofs.sink.write_all.Given as goal

-- the first bytes were written, with no fault
abbrev pub invariant-loop-at : goal.invariant-loop-at
invariant-loop-at g l = record {
  within : l.at ≤ length l.bytes;
  written : Appends (g.K.Sink.written l.initial.sink) (g.K.Sink.written l.sink) (take l.at l.bytes);
  stays : CountStays (g.K.Sink.faults l.initial.sink) (g.K.Sink.faults l.sink);
  is_ready : g.K.Sink.ready l.sink ≡ true;
}

abbrev pub decreases-loop-at : goal.decreases-loop-at
decreases-loop-at g l = length l.bytes - l.at
