use Rattle.std.proofs.Common.{arith, map, sym, ◌∙◌}
use Rattle.pv_model.specs.PlainForms.{plain_token}
use Rattle.pv_dtd.proofs.ProperDtds.{proper}
use Rattle.pv_rules.specs.Sites.{rest_site}
use Rattle.pv_productive.specs.PlainForms.{dtd_of}
use Rattle.pv_span.specs.Weights.{weight_of}
use Rattle.pv_complete.proofs.SiteMoves.{moves_then}
use Rattle.pv_complete.proofs.OptimalWeights.{rest_cut}
use Rattle.pv_complete.proofs.Spots.{spot_few, spot_site, spot_span, spot_weighs}
use Rattle.pv_complete.proofs.WeightsOfWords.{weights_by}
use Rattle.pv_complete.proofs.words.members.then_move.Goals as goal

pub returns : goal.returns
returns c = let f = c.in-Some.ensures.found in let a = f.0 in let b = f.1 in let r = c.requires.followed in
    rw c.requires.is (moves_then (dtd_of c.args.spot.now.weights.grammar.now)
    (map plain_token c.args.spot.now.weights.word.now)
    (weight_of c.args.spot.now.weights.spans.now) (weights_by c.args.spot.now.weights)
    c.args.spot.now.weights.grammar.now.layout.dtd.known
    (proper c.args.spot.now.weights.grammar.now.layout.dtd).named c.args.spot.now.from
    c.args.spot.now.to (spot_span c.args.spot.now) c.args.number (spot_site c.args.spot.now
    (rest_site c.args.number) c.requires.is) (spot_few c.args.spot.now (rest_site c.args.number)
    c.requires.is) r.0 r.1 r.2 c.args.end c.in-Some.place r.3 r.4 a (omega arith)
    (sym (spot_weighs c.args.spot.now (rest_site c.args.number) c.requires.is) ∙ f.2))

pub unreachable-requires : goal.unreachable-requires
unreachable-requires c = let r = c.requires.followed in let e = r.4 in
    rest_cut (dtd_of c.args.spot.now.weights.grammar.now)
    (map plain_token c.args.spot.now.weights.word.now) (weight_of c.args.spot.now.weights.spans.now)
    (weights_by c.args.spot.now.weights) c.args.spot.now.weights.grammar.now.layout.dtd.known
    (proper c.args.spot.now.weights.grammar.now.layout.dtd).named c.args.spot.now.from
    c.args.spot.now.to (spot_span c.args.spot.now) c.args.number (spot_site c.args.spot.now
    (rest_site c.args.number) c.requires.is) (spot_few c.args.spot.now (rest_site c.args.number)
    c.requires.is) r.0 r.1 r.2 r.3 (λ k a b y. c.in_default.ensures.none k a (omega arith)
    (rw e ((spot_weighs c.args.spot.now (rest_site c.args.number) c.requires.is) ∙ y)))
