use Rattle.std.proofs.Common.{map, refl, sym}
use Rattle.pv_model.specs.PlainForms.{plain_token}
use Rattle.pv_dtd.proofs.ProperDtds.{proper}
use Rattle.pv_rules.specs.Sites.{rest_site}
use Rattle.pv_productive.specs.PlainForms.{dtd_of}
use Rattle.pv_span.specs.Weights.{weight_of}
use Rattle.pv_rules.specs.Numbering.{rest_at}
use Rattle.pv_rules.proofs.FlatKinds.{followed_at, last_at, no_rest, outside_at}
use Rattle.pv_complete.proofs.SiteMoves.{moves_last}
use Rattle.pv_complete.proofs.OptimalWeights.{rest_stands}
use Rattle.pv_complete.proofs.Spots.{spot_few, spot_site, spot_span}
use Rattle.pv_complete.proofs.WeightsOfWords.{weights_by}
use Rattle.pv_complete.proofs.words.members.rest_move.Goals as goal

pub unreachable-requires : goal.unreachable-requires
unreachable-requires c = rest_stands (dtd_of c.args.spot.now.weights.grammar.now)
    (map plain_token c.args.spot.now.weights.word.now) (weight_of c.args.spot.now.weights.spans.now)
    (weights_by c.args.spot.now.weights) c.args.spot.now.weights.grammar.now.layout.dtd.known
    (proper c.args.spot.now.weights.grammar.now.layout.dtd).named c.args.spot.now.from
    c.args.spot.now.to (spot_span c.args.spot.now) c.args.number (spot_site c.args.spot.now
    (rest_site c.args.number) c.requires.is) (spot_few c.args.spot.now (rest_site c.args.number)
    c.requires.is) (rest_at (dtd_of c.args.spot.now.weights.grammar.now) c.args.number) refl
    (no_rest (dtd_of c.args.spot.now.weights.grammar.now) c.args.number (sym c.in_default.ensures))

pub unreachable-requires-in-Outside : goal.unreachable-requires-in-Outside
unreachable-requires-in-Outside c = rest_stands (dtd_of c.args.spot.now.weights.grammar.now)
    (map plain_token c.args.spot.now.weights.word.now) (weight_of c.args.spot.now.weights.spans.now)
    (weights_by c.args.spot.now.weights) c.args.spot.now.weights.grammar.now.layout.dtd.known
    (proper c.args.spot.now.weights.grammar.now.layout.dtd).named c.args.spot.now.from
    c.args.spot.now.to (spot_span c.args.spot.now) c.args.number (spot_site c.args.spot.now
    (rest_site c.args.number) c.requires.is) (spot_few c.args.spot.now (rest_site c.args.number)
    c.requires.is) (rest_at (dtd_of c.args.spot.now.weights.grammar.now) c.args.number) refl
    (outside_at (dtd_of c.args.spot.now.weights.grammar.now) c.args.number c.in-Some.part
    (sym c.in-Some.ensures) c.in-Outside.is)

pub returns-in-Last : goal.returns-in-Last
returns-in-Last c = let a = last_at (dtd_of c.args.spot.now.weights.grammar.now) c.args.number
    c.in-Some.part (sym c.in-Some.ensures) c.in-Last.is in
    rw c.requires.is (moves_last (dtd_of c.args.spot.now.weights.grammar.now)
    (map plain_token c.args.spot.now.weights.word.now) (weight_of c.args.spot.now.weights.spans.now)
    (weights_by c.args.spot.now.weights) c.args.spot.now.weights.grammar.now.layout.dtd.known
    (proper c.args.spot.now.weights.grammar.now.layout.dtd).named c.args.spot.now.from
    c.args.spot.now.to (spot_span c.args.spot.now) c.args.number (spot_site c.args.spot.now
    (rest_site c.args.number) c.requires.is) (spot_few c.args.spot.now (rest_site c.args.number)
    c.requires.is) a.0 a.1)

pub then_move-requires-clause-followed : goal.then_move-requires-clause-followed
then_move-requires-clause-followed c = let a =
    followed_at (dtd_of c.args.spot.now.weights.grammar.now) c.args.number c.in-Some.part
    (sym c.in-Some.ensures) c.in-Followed.is in (a.0, a.1, a.2, a.3, a.4)
