use Rattle.std.proofs.Common.{◌≡◌, ◌&&◌, drop}
use Rattle.std.specs.List.{list_all}
use Rattle.pv_chars.specs.Units.{is_simple}
use Rattle.pv_chars.proofs.unit_text.are_simple.Given as goal

abbrev pub invariant-loop-b : goal.invariant-loop-b
invariant-loop-b l = (l.all && list_all is_simple (drop l.b-index l.bytes)) ≡ list_all is_simple l.bytes
