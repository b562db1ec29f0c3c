use Rattle.std.proofs.Common.{arith, length, map, subst, sym, ◌<◌}
use Rattle.std.proofs.lemmas.List.{length-map}
use Rattle.pv_model.specs.PlainForms.{plain_token}
use Rattle.pv_productive.specs.PlainForms.{dtd_of}
use Rattle.pv_tree.specs.PlainForms.{forest}
use Rattle.pv_tree.specs.Words.{word_of}
use Rattle.pv_missing.specs.LiveWords.{AreProductiveTokens}
use Rattle.pv_missing.specs.PlainForms.{plain_of}
use Rattle.pv_missing.proofs.LiveFacts.{live_follows}
use Rattle.test_lists.proofs.need.spans.weight.Goals as goal

pub weights_by-requires : goal.weights_by-requires
weights_by-requires c =
    let d = dtd_of c.args.grammar.now in
    let productive = subst (λ v. AreProductiveTokens d (map plain_token v)) (sym c.as_slice-tokens.ensures)
    (live_follows d (word_of d (forest c.args.kids.now)) (map plain_token c.in_ok-live.live) c.in_ok-live.ensures).names in
    record { productive = subst (λ g. AreProductiveTokens (dtd_of g) (map plain_token c.as_slice-tokens.result.now)) (sym c.in_ok-layout.ensures) productive }

pub at-requires : goal.at-requires
at-requires c =
    let h = c.is_known_owner.ensures.0 c.if-not-is_known_owner.false in
    let l = (rw c.in_ok-layout.ensures at c.in_ok-spans.ensures.weights).long (plain_of c.args.of) h in
    let m = simp length-map at l in (omega arith, omega arith)
