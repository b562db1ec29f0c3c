use Rattle.std.proofs.Common.{Some, ap, length, map, option_map, subst, sym, ◌∙◌}
use Rattle.std.proofs.lemmas.List.{length-map}
use Rattle.pv_model.specs.PlainForms.{plain_token}
use Rattle.pv_productive.specs.PlainForms.{dtd_of}
use Rattle.pv_tree.specs.PlainForms.{forest}
use Rattle.pv_tree.specs.Words.{word_of}
use Rattle.pv_tree.specs.declared.nodes.Mark.{Mark}
use Rattle.pv_missing.specs.PlainForms.{plain_of}
use Rattle.pv_missing.specs.Widths.{FitsWeights}
use Rattle.pv_missing.specs.WordVerdicts.{has_no_trees}
use Rattle.pv_missing.proofs.LiveFacts.{live_follows}
use Rattle.pv_missing.proofs.VerdictBySite.{bare_kids, list_judged}
use Rattle.pv_span.proofs.fixed.list_verdict.Goals as goal

pub judge-requires-clause-fits : goal.judge-requires-clause-fits
judge-requires-clause-fits g c =
    let d = dtd_of c.args.grammar.now in
    let f = (live_follows d (word_of d (forest c.args.kids.now)) (map plain_token c.in_ok-live.live) c.in_ok-live.ensures).same_length in
    let a = simp length-map at f in
    let b = simp length-map at (ap length (c.in_ok-tokens.ensures ∙ ap (λ e. word_of e (forest c.args.kids.now)) c.dtd.ensures)) in
    subst (λ n. FitsWeights d n) (ap length c.as_slice.ensures ∙ b ∙ sym a ∙ sym (ap length c.as_slice-3.ensures)) (c.is_narrow.ensures.0 c.if-not-is_narrow.false)

pub returns-clause-verdict : goal.returns-clause-verdict
returns-clause-verdict g c = λ root list k o h.
    let d = dtd_of c.args.grammar.now in
    let w = ap (λ v. map plain_token v) c.as_slice-2.ensures ∙ c.in_ok-tokens.ensures ∙ ap (λ e. word_of e (forest c.args.kids.now)) c.dtd.ensures ∙ sym (ap (λ v. word_of d v) k) in
    list_judged Mark d root list (map plain_token c.as_slice-2.result.now) c.is_empty.result (Some (plain_of c.in-Some.of)) c.in_ok-verdict.verdict w
    (bare_kids c.args.kids.now c.is_empty.result c.is_empty.ensures ∙ sym (ap (λ v. has_no_trees v) k)) h (o ∙ ap (λ v. option_map plain_of v) c.in-Some.is) c.in_ok-verdict.ensures
