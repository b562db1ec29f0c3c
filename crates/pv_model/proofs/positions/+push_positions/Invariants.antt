use Rattle.std.proofs.Common.{◌≡◌, ◌++◌, drop}
use Rattle.pv_model.specs.Positions.{unreached_positions_all}
use Rattle.pv_model.specs.PlainForms.{plain_parts}
use Rattle.pv_model.proofs.positions.+push_positions.Given as goal

abbrev pub invariant-push_all_positions-loop-part : goal.invariant-push_all_positions-loop-part
invariant-push_all_positions-loop-part l =
    l.positions.items ++ unreached_positions_all (plain_parts (drop l.part-index l.parts)) ≡ l.fn.positions.items ++ unreached_positions_all (plain_parts l.parts)
