use Rattle.std.proofs.Common.{arith, map, sym, true≢false, ◌∙◌}
use Rattle.pv_dtd.proofs.ProperDtds.{proper}
use Rattle.pv_missing.proofs.VerdictBySite.{content_possible_judged, content_valid_judged}
use Rattle.pv_missing.proofs.VerdictBySite.{judged_impossible, unproductive_judged}
use Rattle.pv_missing.specs.LiveWords.{IsProductiveToken}
use Rattle.pv_model.specs.PlainForms.{plain_model, plain_token}
use Rattle.pv_productive.specs.PlainForms.{dtd_of}
use Rattle.pv_rules.specs.Sites.{content_site}
use Rattle.pv_verdicts.proofs.CountAnswers.{possible_answer}
use Rattle.pv_rematch.proofs.TokenNumbers.{all_of_none, none_of_all}
use Rattle.pv_verdicts.proofs.deciding.verdict_by.Goals as goal

pub returns-then-counts-gt0 : goal.returns-then-counts-gt0
returns-then-counts-gt0 c = λ none.
    let g = dtd_of c.args.judge.now in let w = map plain_token c.args.word.now in
    unproductive_judged g w (content_site c.args.content.now.id.0) none
    (λ p. let z =
    none_of_all (IsProductiveToken g) w c.args.counts.now.unproductive p
    c.requires.counts.unproductive in omega arith)

pub returns-then-is_allowed : goal.returns-then-is_allowed
returns-then-is_allowed c = λ none.
    let g = dtd_of c.args.judge.now in
    let w = map plain_token c.args.word.now in
    let content = c.requires.content in
    let p =
    all_of_none (IsProductiveToken g) w c.args.counts.now.unproductive
    (omega arith) c.requires.counts.unproductive in
    content_valid_judged g w c.args.content.now.id.0 (plain_model c.args.content.now.model.now) none
    content.model p content.productive (λ e. absurd (content.not_empty e))
    (c.requires.allowed.0 c.if-is_allowed.true)

pub derives-requires-clause-productive : goal.derives-requires-clause-productive
derives-requires-clause-productive c =
    all_of_none (IsProductiveToken (dtd_of c.args.judge.now)) (map plain_token c.args.word.now)
    c.args.counts.now.unproductive (omega arith) c.requires.counts.unproductive

pub returns-then-branch : goal.returns-then-branch
returns-then-branch c = λ none.
    let g = dtd_of c.args.judge.now in
    let w = map plain_token c.args.word.now in
    let content = c.requires.content in
    let p =
    all_of_none (IsProductiveToken g) w c.args.counts.now.unproductive
    (omega arith) c.requires.counts.unproductive in
    let answer =
    possible_answer g c.args.content.now.id.0 c.args.word.now c.in_ok-derives.field-0
    (proper c.args.judge.now.layout.dtd) p c.in_ok-derives.ensures in
    content_possible_judged g w c.args.content.now.id.0 (plain_model c.args.content.now.model.now)
    none content.model p content.productive (λ e. absurd (content.not_empty e))
    (λ a. true≢false (sym (c.requires.allowed.1 a) ∙ c.if-is_allowed.false))
    (answer.0 c.if-branch.true)

pub returns-else-branch : goal.returns-else-branch
returns-else-branch c = λ none.
    let g = dtd_of c.args.judge.now in let w = map plain_token c.args.word.now in
    let p =
    all_of_none (IsProductiveToken g) w c.args.counts.now.unproductive
    (omega arith) c.requires.counts.unproductive in
    let answer =
    possible_answer g c.args.content.now.id.0 c.args.word.now c.in_ok-derives.field-0
    (proper c.args.judge.now.layout.dtd) p c.in_ok-derives.ensures in
    judged_impossible g w (content_site c.args.content.now.id.0) none p (λ q.
    true≢false (sym (answer.1 q) ∙ c.if-branch.false))
