use Rattle.std.proofs.Common.{◌≡◌, ◌+◌, take, drop, true}
use Rattle.std.specs.List.{list_all}
use Rattle.pv_chars.specs.Spaces.{is_space}
use Rattle.pv_chars.specs.Scan.{space_length}
use Rattle.pv_chars.proofs.scan.space_length.Given as goal

abbrev pub invariant-loop-b : goal.invariant-loop-b
invariant-loop-b l = record {
  counted : l.count ≡ l.b-index;
  white : list_all is_space (take l.b-index l.bytes) ≡ true;
  left : l.count + space_length (drop l.b-index l.bytes) ≡ space_length l.bytes;
}
