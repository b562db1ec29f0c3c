use Rattle.std.proofs.Common.{drop, map, ◌↔◌}
use Rattle.pv_model.specs.PlainForms.{plain_token}
use Rattle.pv_productive.specs.PlainForms.{dtd_of}
use Rattle.pv_missing.specs.LiveWords.{AreProductiveTokens}
use Rattle.pv_missing.proofs.productive.are_productive.Given as goal

abbrev pub invariant-loop-token : goal.invariant-loop-token
invariant-loop-token l =
    AreProductiveTokens (dtd_of l.grammar) (map plain_token (drop l.token-index l.word)) ↔ AreProductiveTokens (dtd_of l.grammar) (map plain_token l.word)
