use Rattle.std.proofs.Common.{length, map, ◌∙◌, ◌≡◌}
use Rattle.std.proofs.lemmas.List.{length-map}
use Rattle.std.proofs.lemmas.Result.{IfOk-weaker}
use Rattle.pv_model.specs.PlainForms.{plain_token}
use Rattle.pv_productive.specs.PlainForms.{dtd_of}
use Rattle.pv_tree.specs.PlainForms.{forest}
use Rattle.pv_tree.specs.Words.{word_of}
use Rattle.pv_missing.proofs.LiveFacts.{live_follows}
use Rattle.pv_complete.proofs.missing.lists.weight_of.Goals as goal

pub known_weight-requires-clause-productive : goal.known_weight-requires-clause-productive
known_weight-requires-clause-productive c =
    let d = dtd_of c.args.owner.now.layout.now.grammar.now in
    (live_follows d (word_of d (forest c.args.kids.now)) (map plain_token c.in_ok-live.live) c.in_ok-live.ensures).names

pub returns-clause-weight : goal.returns-clause-weight
returns-clause-weight c = IfOk-weaker c.known_weight.result _ _ (λ k w. (map plain_token c.in_ok-live.live, c.in_ok-live.ensures, w)) c.known_weight.ensures.weight

pub returns-clause-fits : goal.returns-clause-fits
returns-clause-fits c =
    let d = dtd_of c.args.owner.now.layout.now.grammar.now in
    let word = word_of d (forest c.args.kids.now) in
    let n : length c.in_ok-live.live ≡ length (map plain_token c.in_ok-live.live) = simp length-map in
    let same : length c.in_ok-live.live ≡ length word = n ∙ (live_follows d word (map plain_token c.in_ok-live.live) c.in_ok-live.ensures).same_length in
    rw same at c.known_weight.ensures.fits

pub returns-clause-wide : goal.returns-clause-wide
returns-clause-wide c =
    let d = dtd_of c.args.owner.now.layout.now.grammar.now in
    let word = word_of d (forest c.args.kids.now) in
    let n : length c.in_ok-live.live ≡ length (map plain_token c.in_ok-live.live) = simp length-map in
    let same : length c.in_ok-live.live ≡ length word = n ∙ (live_follows d word (map plain_token c.in_ok-live.live) c.in_ok-live.ensures).same_length in
    rw same at c.known_weight.ensures.wide
