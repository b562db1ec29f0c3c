use Rattle.std.proofs.Common.{map, subst, sym, true≢false, ◌∙◌}
use Rattle.pv_model.specs.PlainForms.{plain_token}
use Rattle.pv_missing.specs.LiveWords.{AreProductiveTokens}
use Rattle.pv_missing.specs.PlainForms.{plain_of}
use Rattle.pv_productive.specs.PlainForms.{dtd_of}
use Rattle.pv_productive.specs.declared.grammar.Grammar.{Grammar}
use Rattle.pv_missing.proofs.VerdictBySite.{unproductive_judged}
use Rattle.pv_reach.proofs.verdict.judge_owned.Goals as goal

pub returns-then-not-are_productive : goal.returns-then-not-are_productive
returns-then-not-are_productive c =
    let word = map plain_token c.args.word.now in
    let P = λ (v : Grammar). AreProductiveTokens (dtd_of v) word in
    unproductive_judged (dtd_of c.args.judge.now) word (plain_of c.args.of) c.args.is_bare
    (λ p. true≢false (sym (c.are_productive.ensures.1 (subst P (sym c.grammar.ensures) p)) ∙ c.if-not-are_productive.true))
