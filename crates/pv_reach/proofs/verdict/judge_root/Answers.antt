use Rattle.std.proofs.Common.{[], map, refl, sym, true≢false, ◌∙◌, ◌∷◌, ◌≡◌}
use Rattle.pv_model.specs.Plain.{named}
use Rattle.pv_model.specs.PlainForms.{plain_token}
use Rattle.pv_dtd.proofs.ProperDtds.{proper}
use Rattle.pv_rules.specs.Sites.{name_site}
use Rattle.pv_productive.specs.PlainForms.{dtd_of}
use Rattle.pv_missing.specs.declared.owners.Of.TheVariants as of
use Rattle.pv_missing.proofs.VerdictBySite.{judged_impossible, judged_possible, root_valid_judged}
use Rattle.pv_reach.proofs.ColumnAnswers.{root_answer}
use Rattle.pv_reach.proofs.verdict.judge_root.Goals as goal

pub returns-then-is_element : goal.returns-then-is_element
returns-then-is_element c = λ none.
    root_valid_judged (dtd_of c.args.judge.now) (map plain_token c.args.word.now) c.args.id.0 none c.requires.productive (c.is_element.ensures.0 c.if-is_element.true)

pub returns-then-branch : goal.returns-then-branch
returns-then-branch c = λ none.
    let never = λ (e : map plain_token c.args.word.now ≡ named c.args.id.0 ∷ []). true≢false (sym (c.is_element.ensures.1 e) ∙ c.if-is_element.false) in
    let answer = root_answer (dtd_of c.args.judge.now) c.args.word.now c.args.id.0 c.in_ok-content_derives.field-0 (proper c.args.judge.now.layout.dtd) c.requires.productive
    c.in_ok-content_derives.ensures (of.Root c.args.id) refl never in
    judged_possible (dtd_of c.args.judge.now) (map plain_token c.args.word.now) (name_site c.args.id.0) none c.requires.productive tt (answer.0 c.if-branch.true) never

pub returns-else-branch : goal.returns-else-branch
returns-else-branch c = λ none.
    let never = λ (e : map plain_token c.args.word.now ≡ named c.args.id.0 ∷ []). true≢false (sym (c.is_element.ensures.1 e) ∙ c.if-is_element.false) in
    let answer = root_answer (dtd_of c.args.judge.now) c.args.word.now c.args.id.0 c.in_ok-content_derives.field-0 (proper c.args.judge.now.layout.dtd) c.requires.productive
    c.in_ok-content_derives.ensures (of.Root c.args.id) refl never in
    judged_impossible (dtd_of c.args.judge.now) (map plain_token c.args.word.now) (name_site c.args.id.0) none c.requires.productive (λ p. true≢false (sym (answer.1 p) ∙ c.if-branch.false))
