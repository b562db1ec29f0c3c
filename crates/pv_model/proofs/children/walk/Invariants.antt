use Rattle.std.proofs.Common.{map, drop}
use Rattle.pv_model.specs.PlainForms.{plain_part, plain_token}
use Rattle.pv_model.proofs.WordWalks.{IsReading}
use Rattle.pv_model.proofs.children.walk.Given as goal

abbrev pub invariant-loop-token : goal.invariant-loop-token
invariant-loop-token l =
    IsReading (plain_part l.part) (map plain_token l.word) l.entered l.is_end l.positions (map plain_token (drop l.token-index l.word))
