use Rattle.std.proofs.Common.{◌↔◌, map, drop}
use Rattle.std.specs.List.{AllByRecursion}
use Rattle.pv_model.specs.Models.{IsOfMixed}
use Rattle.pv_model.specs.PlainForms.{plain_token, numbers_of}
use Rattle.pv_model.proofs.mixed.are_listed.Given as goal

abbrev pub invariant-loop-token : goal.invariant-loop-token
invariant-loop-token l =
    AllByRecursion (IsOfMixed (numbers_of l.names)) (map plain_token (drop l.token-index l.word)) ↔ AllByRecursion (IsOfMixed (numbers_of l.names)) (map plain_token l.word)
