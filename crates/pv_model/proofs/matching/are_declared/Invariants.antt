use Rattle.std.proofs.Common.{◌↔◌, map, drop}
use Rattle.std.specs.List.{AllByRecursion}
use Rattle.pv_model.specs.Models.{IsOfAny}
use Rattle.pv_model.specs.PlainForms.{plain_token}
use Rattle.pv_model.proofs.matching.are_declared.Given as goal

abbrev pub invariant-loop-token : goal.invariant-loop-token
invariant-loop-token l =
    AllByRecursion (IsOfAny l.declared) (map plain_token (drop l.token-index l.word)) ↔ AllByRecursion (IsOfAny l.declared) (map plain_token l.word)
