use Rattle.std.proofs.Common.{List, drop, map, ◌++◌}
use Rattle.pv_model.specs.Plain.{PlainToken}
use Rattle.pv_model.specs.PlainForms.{plain_token}
use Rattle.pv_productive.specs.PlainForms.{dtd_of}
use Rattle.pv_missing.specs.LiveWords.{IsLiveWord}
use Rattle.pv_missing.proofs.live.live_tokens.Given as goal

-- what is live of the rest makes a live word of all
abbrev pub invariant-loop-token : goal.invariant-loop-token
invariant-loop-token l = (rest : List PlainToken) → IsLiveWord (dtd_of l.grammar) (map plain_token (drop l.token-index l.tokens)) rest →
    IsLiveWord (dtd_of l.grammar) (map plain_token l.tokens) (map plain_token l.live.items ++ rest)
