use Rattle.std.proofs.Common.{ap, map, option_map, sym, ◌∙◌}
use Rattle.pv_model.specs.PlainForms.{plain_token}
use Rattle.pv_missing.specs.PlainForms.{plain_of}
use Rattle.pv_tree.specs.Words.{word_of}
use Rattle.pv_tree.specs.PlainForms.{forest}
use Rattle.pv_tree.specs.declared.nodes.Mark.{Mark}
use Rattle.pv_productive.specs.PlainForms.{dtd_of}
use Rattle.pv_missing.specs.WordVerdicts.{has_no_trees}
use Rattle.pv_missing.proofs.VerdictBySite.{bare_kids, list_judged}
use Rattle.pv_reach.proofs.verdict.judge_kids.Goals as goal

pub returns-clause-verdict : goal.returns-clause-verdict
returns-clause-verdict c = λ root list k o h.
    let d = dtd_of c.args.judge.now in
    let w = ap (λ v. map plain_token v) c.as_slice.ensures ∙ c.in_ok-tokens.ensures
    ∙ ap (λ e. word_of e (forest c.args.kids.now)) (c.dtd.ensures ∙ ap dtd_of c.grammar.ensures)
    ∙ sym (ap (λ v. word_of d v) k) in
    list_judged Mark d root list (map plain_token c.as_slice.result.now) c.is_empty.result (option_map plain_of c.args.owner) c.in_ok-verdict.verdict w
    (bare_kids c.args.kids.now c.is_empty.result c.is_empty.ensures ∙ sym (ap (λ v. has_no_trees v) k)) h o c.in_ok-verdict.ensures.verdict
