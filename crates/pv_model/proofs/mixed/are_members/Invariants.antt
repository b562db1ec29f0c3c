use Rattle.std.proofs.Common.{◌↔◌, map, drop}
use Rattle.std.specs.List.{AllByRecursion}
use Rattle.pv_model.specs.Members.{IsOfSet}
use Rattle.pv_model.specs.PlainForms.{plain_token}
use Rattle.pv_model.proofs.mixed.are_members.Given as goal

abbrev pub invariant-loop-token : goal.invariant-loop-token
invariant-loop-token l =
    AllByRecursion (IsOfSet l.numbers) (map plain_token (drop l.token-index l.word)) ↔ AllByRecursion (IsOfSet l.numbers) (map plain_token l.word)
