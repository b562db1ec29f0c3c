use Rattle.std.proofs.Common.{◌≡◌, drop}
use Rattle.pv_chars.specs.Declarations.{is_one_of}
use Rattle.pv_chars.proofs.char_reading.is_one_of.Given as goal

abbrev pub invariant-loop-other : goal.invariant-loop-other
invariant-loop-other l = is_one_of (drop l.other-index l.bytes) l.b ≡ is_one_of l.bytes l.b
