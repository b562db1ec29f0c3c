use Rattle.std.proofs.Common.{take, ◌++◌, ◌≡◌}
use Rattle.pv_compare.specs.WantedEvents.{wanted_events}
use Rattle.pv_compare.proofs.OneHedge.{texts}
use Rattle.pv_compare.proofs.wanted.Wanted.take_text.Given as goal

abbrev pub invariant-loop-byte : goal.invariant-loop-byte
invariant-loop-byte l = wanted_events l.initial.self ≡ texts (take l.byte-index l.bytes) ++ wanted_events l.self
