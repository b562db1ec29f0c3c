use Rattle.std.proofs.Common.{ap, arith, length, map, subst, sym, ◌<◌, ◌∙◌}
use Rattle.std.proofs.lemmas.List.{length-map}
use Rattle.pv_model.specs.PlainForms.{plain_token}
use Rattle.pv_dtd.specs.Plain.{PlainDtd}
use Rattle.pv_rules.specs.Sites.{name_site}
use Rattle.pv_productive.specs.PlainForms.{dtd_of}
use Rattle.pv_tree.specs.PlainForms.{forest}
use Rattle.pv_tree.specs.Words.{word_of}
use Rattle.pv_missing.specs.LiveWords.{AreProductiveTokens}
use Rattle.pv_missing.proofs.LiveFacts.{live_follows}
use Rattle.test_lists.proofs.need.spans.weight_over.Goals as goal

pub weights-requires : goal.weights-requires
weights-requires c =
    let d = dtd_of c.args.grammar.now in
    record {
      productive = subst (λ v. AreProductiveTokens d (map plain_token v)) (sym c.as_slice-tokens.ensures)
          (live_follows d (word_of d (forest c.args.kids.now)) (map plain_token c.in_ok-live.live) c.in_ok-live.ensures).names;
    }

pub at-requires : goal.at-requires
at-requires c =
    let e = c.names.ensures ∙ ap (λ (d : PlainDtd). length d.names) c.dtd.ensures in
    let h : 0 < length (dtd_of c.args.grammar.now).names = let l = c.if-names-eq0.false in omega arith in
    let l = c.in_ok-spans.ensures.weights.long (name_site 0) h in
    let m = simp length-map at l in (omega arith, omega arith)
