use Rattle.std.proofs.Common.{◌≡◌, true, take}
use Rattle.std.specs.List.{list_all}
use Rattle.pv_params.specs.PlainBytes.{is_plain}
use Rattle.pv_params.specs.PlainForms.{plain_mode}
use Rattle.pv_params.proofs.plain_bytes.run_length.Given as goal

abbrev pub invariant-loop-b : goal.invariant-loop-b
invariant-loop-b l = (l.count ≡ l.b-index) × (list_all (is_plain (plain_mode l.mode)) (take l.b-index l.bytes) ≡ true)
