use Rattle.std.proofs.Common.{◌≡◌, ◌++◌, List, length, map, take}
use Rattle.pv_model.specs.Plain.{PlainToken}
use Rattle.pv_model.specs.PlainForms.{plain_part, plain_token}
use Rattle.pv_model.specs.Positions.{position_count}
use Rattle.pv_rematch.specs.Walks.{HasRead}
use Rattle.pv_rematch.proofs.walkers.Walker.read_all.Given as goal

abbrev pub invariant-loop-number : goal.invariant-loop-number
invariant-loop-number l = record {
  count : length l.self.state.positions.items ≡ position_count (plain_part l.part);
  read : (u a : List PlainToken) → HasRead (plain_part l.part) u a l.initial.self →
      HasRead (plain_part l.part) u (a ++ take l.number (map plain_token l.tokens)) l.self;
}
