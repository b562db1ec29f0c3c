use Rattle.std.proofs.Common.{map, take, ◌≤◌}
use Rattle.pv_model.specs.PlainForms.{plain_token}
use Rattle.pv_rematch.specs.Counts.{AreWithout}
use Rattle.pv_productive.specs.PlainForms.{dtd_of}
use Rattle.pv_verdicts.specs.TokenCounts.{IsTakenToken}
use Rattle.pv_verdicts.proofs.counts.untaken_in.Given as goal

abbrev pub invariant-loop-token : goal.invariant-loop-token
invariant-loop-token l = record {
  within : l.count ≤ l.token-index;
  counted : AreWithout (IsTakenToken (dtd_of l.judge) l.id.0)
      (map plain_token (take l.token-index l.word)) l.count;
}
