use Rattle.std.proofs.Common.{Some, map, subst, ◌≡◌}
use Rattle.std.proofs.lemmas.Result.{IfOk-weaker}
use Rattle.pv_model.specs.PlainForms.{plain_model, plain_token}
use Rattle.pv_dtd.specs.Plain.{model_of}
use Rattle.pv_dtd.specs.Productive.{IsProductive}
use Rattle.pv_productive.specs.PlainForms.{dtd_of}
use Rattle.pv_productive.specs.declared.grammar.Grammar.{Grammar}
use Rattle.pv_missing.specs.LiveWords.{AreProductiveTokens}
use Rattle.pv_missing.proofs.VerdictBySite.{content_valid_judged}
use Rattle.pv_check.proofs.words.is_valid_content.Goals as goal

pub returns : goal.returns
returns c =
    let g = dtd_of c.args.judge.now in
    let w = map plain_token c.args.word.now in
    let m = plain_model c.in-Some.model.now in
    let at = subst (λ (v : Grammar). model_of (dtd_of v) c.args.id.0 ≡ Some m) c.grammar.ensures
    c.in-Some.ensures.1 in
    let owner = subst (λ (v : Grammar). IsProductive (dtd_of v) c.args.id.0) c.grammar.ensures
    c.in-Some.ensures.0 in
    let productive = subst (λ (v : Grammar). AreProductiveTokens (dtd_of v) w)
    c.grammar-else-not-may_have_kids.ensures
    (c.are_productive.ensures.0 c.if-not-are_productive.false) in
    IfOk-weaker c.is_allowed.result _ _
    (λ seen is yes. content_valid_judged g w c.args.id.0 m c.args.is_bare at productive owner
    (c.may_have_kids.ensures c.if-not-may_have_kids.false) (is.0 yes))
    c.is_allowed.ensures
