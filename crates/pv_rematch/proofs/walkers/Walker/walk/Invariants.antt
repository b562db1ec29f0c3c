use Rattle.std.proofs.Common.{◌≡◌, ◌+◌, ◌≤◌, ◌++◌, List, length, map, take, drop}
use Rattle.pv_model.specs.Plain.{PlainToken}
use Rattle.pv_model.specs.PlainForms.{plain_part, plain_token}
use Rattle.pv_model.specs.Positions.{position_count}
use Rattle.pv_rematch.specs.Walks.{HasRead, Wait}
use Rattle.pv_rematch.proofs.walkers.Walker.walk.Given as goal

abbrev pub invariant-loop-token : goal.invariant-loop-token
invariant-loop-token l = record {
  count : length l.self.state.positions.items ≡ position_count (plain_part l.part);
  next : l.next ≤ length l.points;
  read : (u a : List PlainToken) → HasRead (plain_part l.part) u a l.initial.self →
      HasRead (plain_part l.part) u (a ++ take l.token-index (map plain_token l.rest)) l.self;
  wait : (x : List PlainToken) →
      Wait (plain_part l.part) (x ++ map plain_token l.rest) l.was_allowed
      (length x + l.initial.ahead) l.points →
      Wait (plain_part l.part) (x ++ map plain_token l.rest) l.was_allowed
      (length x + l.token-index + l.ahead) (drop l.next l.points);
}
