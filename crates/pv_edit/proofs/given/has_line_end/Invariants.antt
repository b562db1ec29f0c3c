use Rattle.std.proofs.Common.{◌≡◌, drop}
use Rattle.std.specs.List.{list_any}
use Rattle.pv_edit.specs.GivenNames.{is_line_end}
use Rattle.pv_edit.proofs.given.has_line_end.Given as goal

abbrev pub invariant-loop-byte : goal.invariant-loop-byte
invariant-loop-byte l = list_any is_line_end (drop l.byte-index l.text) ≡ list_any is_line_end l.text
