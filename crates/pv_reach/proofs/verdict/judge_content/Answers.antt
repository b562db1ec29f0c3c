use Rattle.std.proofs.Common.{Some, map, refl, subst, sym, true≢false, ◌∙◌, ◌≡◌}
use Rattle.pv_model.specs.PlainForms.{plain_model, plain_token}
use Rattle.pv_dtd.specs.Plain.{model_of}
use Rattle.pv_dtd.proofs.ProperDtds.{proper}
use Rattle.pv_rules.specs.Sites.{content_site}
use Rattle.pv_dtd.specs.Productive.{IsProductive}
use Rattle.pv_productive.specs.PlainForms.{dtd_of}
use Rattle.pv_productive.specs.declared.grammar.Grammar.{Grammar}
use Rattle.pv_missing.specs.declared.owners.Of.TheVariants as of
use Rattle.pv_missing.proofs.VerdictBySite.{content_possible_judged, content_valid_judged, judged_impossible, kids_judged}
use Rattle.pv_reach.proofs.ColumnAnswers.{content_answer}
use Rattle.pv_reach.proofs.verdict.judge_content.Goals as goal

pub returns-in_default : goal.returns-in_default
returns-in_default c = λ l.
    subst (λ (v : Grammar). IsProductive (dtd_of v) c.args.id.0 → ⊥) c.grammar.ensures c.in_default.ensures l.may_have.0

pub returns-then-not-may_have_kids : goal.returns-then-not-may_have_kids
returns-then-not-may_have_kids c =
    let g = dtd_of c.args.judge.now in
    let m = plain_model c.in-Some.model.now in
    let at = subst (λ (v : Grammar). model_of (dtd_of v) c.args.id.0 ≡ Some m) c.grammar.ensures c.in-Some.ensures.1 in
    kids_judged g (map plain_token c.args.word.now) c.args.id.0 m c.args.is_bare at (λ k. true≢false (sym (c.may_have_kids.ensures.1 k) ∙ c.if-not-may_have_kids.true))

pub returns-then-branch : goal.returns-then-branch
returns-then-branch c =
    let g = dtd_of c.args.judge.now in
    let m = plain_model c.in-Some.model.now in
    let at = subst (λ (v : Grammar). model_of (dtd_of v) c.args.id.0 ≡ Some m) c.grammar.ensures c.in-Some.ensures.1 in
    let owner = subst (λ (v : Grammar). IsProductive (dtd_of v) c.args.id.0) c.grammar.ensures c.in-Some.ensures.0 in
    let kids = c.may_have_kids.ensures.0 c.if-not-may_have_kids.false in
    content_valid_judged g (map plain_token c.args.word.now) c.args.id.0 m c.args.is_bare at c.requires.productive owner kids (c.in_ok-is_allowed.ensures.0 c.if-branch.true)

pub returns-then-branch-2 : goal.returns-then-branch-2
returns-then-branch-2 c =
    let g = dtd_of c.args.judge.now in
    let m = plain_model c.in-Some.model.now in
    let at = subst (λ (v : Grammar). model_of (dtd_of v) c.args.id.0 ≡ Some m) c.grammar.ensures c.in-Some.ensures.1 in
    let owner = subst (λ (v : Grammar). IsProductive (dtd_of v) c.args.id.0) c.grammar.ensures c.in-Some.ensures.0 in
    let kids = c.may_have_kids.ensures.0 c.if-not-may_have_kids.false in
    let answer = content_answer g c.args.word.now c.args.id.0 c.in_ok-content_derives.field-0 (proper c.args.judge.now.layout.dtd) c.requires.productive c.in_ok-content_derives.ensures
    (of.Elem c.args.id) refl in
    content_possible_judged g (map plain_token c.args.word.now) c.args.id.0 m c.args.is_bare at c.requires.productive owner kids
    (λ a. true≢false (sym (c.in_ok-is_allowed.ensures.1 a) ∙ c.if-branch.false)) (answer.0 c.if-branch-2.true)

pub returns-else-branch-2 : goal.returns-else-branch-2
returns-else-branch-2 c =
    let g = dtd_of c.args.judge.now in
    let answer = content_answer g c.args.word.now c.args.id.0 c.in_ok-content_derives.field-0 (proper c.args.judge.now.layout.dtd) c.requires.productive c.in_ok-content_derives.ensures
    (of.Elem c.args.id) refl in
    judged_impossible g (map plain_token c.args.word.now) (content_site c.args.id.0) c.args.is_bare c.requires.productive (λ p. true≢false (sym (answer.1 p) ∙ c.if-branch-2.false))
