use Rattle.std.proofs.Common.{ap, arith, length, map, subst, sym, ◌∙◌, ◌≡◌}
use Rattle.std.proofs.lemmas.List.{length-map}
use Rattle.pv_model.specs.PlainForms.{plain_token}
use Rattle.pv_missing.specs.PlainForms.{plain_of}
use Rattle.pv_missing.specs.ListWeights.{whole}
use Rattle.pv_productive.specs.PlainForms.{dtd_of}
use Rattle.pv_rules.specs.Derivations.{IsWeight}
use Rattle.pv_rules.specs.Rules.{Rule, over}
use Rattle.pv_span.proofs.KnownSites.{owner_has}
use Rattle.pv_span.specs.Weights.{weight_of}
use Rattle.pv_complete.proofs.words.completing.weight_by.Goals as goal

pub overflow_cast-word : goal.overflow_cast-word
overflow_cast-word c =
    let l = c.requires.long (plain_of c.args.owner.now.of) (owner_has c.args.owner.now) in let m = simp length-map at l in let s = c.args.spans.now.chart.short in omega arith

pub at-requires : goal.at-requires
at-requires c = let l = c.requires.long (plain_of c.args.owner.now.of) (owner_has c.args.owner.now) in let m = simp length-map at l in (omega arith, omega arith)

pub returns-clause-told : goal.returns-clause-told
returns-clause-told c =
    let n : length c.args.word.now ≡ length (map plain_token c.args.word.now) = simp length-map in
    c.at.ensures ∙ ap (λ s. weight_of c.args.spans.now (over s 0 (length c.args.word.now))) c.site.ensures
    ∙ ap (λ k. weight_of c.args.spans.now (over (plain_of c.args.owner.now.of) 0 k)) n

pub returns-clause-weight : goal.returns-clause-weight
returns-clause-weight c =
    let d = dtd_of c.args.owner.now.layout.now.grammar.now in
    let w = map plain_token c.args.word.now in
    let n : length c.args.word.now ≡ length w = simp length-map in
    let here = c.requires.weights (plain_of c.args.owner.now.of) 0 (length w) (owner_has c.args.owner.now) (omega arith, omega arith) in
    let same = ap (λ s. weight_of c.args.spans.now (over s 0 (length c.args.word.now))) c.site.ensures
    ∙ ap (λ k. weight_of c.args.spans.now (over (plain_of c.args.owner.now.of) 0 k)) n in
    subst (IsWeight (Rule d w) (whole (plain_of c.args.owner.now.of) w)) (sym (c.at.ensures ∙ same)) here
