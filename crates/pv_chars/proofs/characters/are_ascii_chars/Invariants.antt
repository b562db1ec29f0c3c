use Rattle.std.proofs.Common.{◌≡◌, ◌&&◌, drop}
use Rattle.std.specs.List.{list_all}
use Rattle.pv_chars.specs.Characters.{is_ascii_char}
use Rattle.pv_chars.proofs.characters.are_ascii_chars.Given as goal

abbrev pub invariant-loop-b : goal.invariant-loop-b
invariant-loop-b l = (l.all && list_all is_ascii_char (drop l.b-index l.bytes)) ≡ list_all is_ascii_char l.bytes
