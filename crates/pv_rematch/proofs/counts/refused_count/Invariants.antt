use Rattle.std.proofs.Common.{map, take}
use Rattle.pv_model.specs.PlainForms.{plain_model, plain_token}
use Rattle.pv_rematch.specs.Counts.{AreWithout, IsAllowedAlone}
use Rattle.pv_rematch.proofs.counts.refused_count.Given as goal

abbrev pub invariant-loop-token : goal.invariant-loop-token
invariant-loop-token l =
    AreWithout (IsAllowedAlone l.declared (plain_model l.model))
    (map plain_token (take l.token-index l.word)) l.count
