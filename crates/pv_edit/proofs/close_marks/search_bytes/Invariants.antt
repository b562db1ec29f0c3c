use Rattle.std.proofs.Common.{◌≡◌, drop}
use Rattle.pv_edit.specs.CloseMarks.{search_bytes}
use Rattle.pv_edit.proofs.close_marks.search_bytes.Given as goal

abbrev pub invariant-loop-byte : goal.invariant-loop-byte
invariant-loop-byte l = search_bytes l.at_end (drop l.byte-index l.bytes) ≡ search_bytes l.fn.before l.bytes
