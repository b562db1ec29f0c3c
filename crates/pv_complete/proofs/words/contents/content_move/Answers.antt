use Rattle.std.proofs.Common.{map, sym}
use Rattle.pv_model.specs.PlainForms.{plain_token}
use Rattle.pv_dtd.proofs.ProperDtds.{proper}
use Rattle.pv_rules.specs.Sites.{content_site}
use Rattle.pv_productive.specs.PlainForms.{dtd_of}
use Rattle.pv_span.specs.Weights.{weight_of}
use Rattle.pv_rules.proofs.FlatContents.{any_at, children_at, empty_at, mixed_at, no_content}
use Rattle.pv_complete.proofs.SiteMoves.{moves_children, moves_empty}
use Rattle.pv_complete.proofs.OptimalWeights.{content_declared}
use Rattle.pv_complete.proofs.Spots.{spot_few, spot_site, spot_span}
use Rattle.pv_complete.proofs.WeightsOfWords.{weights_by}
use Rattle.pv_complete.proofs.words.contents.content_move.Goals as goal

pub unreachable-requires : goal.unreachable-requires
unreachable-requires c = content_declared (dtd_of c.args.spot.now.weights.grammar.now)
    (map plain_token c.args.spot.now.weights.word.now) (weight_of c.args.spot.now.weights.spans.now)
    (weights_by c.args.spot.now.weights) c.args.spot.now.weights.grammar.now.layout.dtd.known
    (proper c.args.spot.now.weights.grammar.now.layout.dtd).named c.args.spot.now.from
    c.args.spot.now.to (spot_span c.args.spot.now) c.args.id.0 (spot_site c.args.spot.now
    (content_site c.args.id.0) c.requires.is) (spot_few c.args.spot.now (content_site c.args.id.0)
    c.requires.is)
    (no_content (dtd_of c.args.spot.now.weights.grammar.now) c.args.id.0 (sym c.in_default.ensures))

pub returns-in-Empty : goal.returns-in-Empty
returns-in-Empty c = rw c.requires.is (moves_empty (dtd_of c.args.spot.now.weights.grammar.now)
    (map plain_token c.args.spot.now.weights.word.now) (weight_of c.args.spot.now.weights.spans.now)
    (weights_by c.args.spot.now.weights) c.args.spot.now.weights.grammar.now.layout.dtd.known
    (proper c.args.spot.now.weights.grammar.now.layout.dtd).named c.args.spot.now.from
    c.args.spot.now.to (spot_span c.args.spot.now) c.args.id.0 (spot_site c.args.spot.now
    (content_site c.args.id.0) c.requires.is) (spot_few c.args.spot.now (content_site c.args.id.0)
    c.requires.is) (empty_at (dtd_of c.args.spot.now.weights.grammar.now) c.args.id.0
    c.in-Some.content (sym c.in-Some.ensures) c.in-Empty.is))

pub returns-in-Children : goal.returns-in-Children
returns-in-Children c = let e = children_at (dtd_of c.args.spot.now.weights.grammar.now) c.args.id.0 c.in-Some.content (sym c.in-Some.ensures) c.in-Children.is in
    rw c.requires.is (moves_children (dtd_of c.args.spot.now.weights.grammar.now)
    (map plain_token c.args.spot.now.weights.word.now)
    (weight_of c.args.spot.now.weights.spans.now) (weights_by c.args.spot.now.weights)
    c.args.spot.now.weights.grammar.now.layout.dtd.known
    (proper c.args.spot.now.weights.grammar.now.layout.dtd).named c.args.spot.now.from
    c.args.spot.now.to (spot_span c.args.spot.now) c.args.id.0 (spot_site c.args.spot.now
    (content_site c.args.id.0) c.requires.is) (spot_few c.args.spot.now
    (content_site c.args.id.0) c.requires.is) e.0 c.in-Some.content.first e.1 e.2)

pub any_move-requires-clause-any : goal.any_move-requires-clause-any
any_move-requires-clause-any c = any_at (dtd_of c.args.spot.now.weights.grammar.now) c.args.id.0 c.in-Some.content (sym c.in-Some.ensures) c.in-Any.is

pub mixed_move-requires-clause-mixed : goal.mixed_move-requires-clause-mixed
mixed_move-requires-clause-mixed c = mixed_at (dtd_of c.args.spot.now.weights.grammar.now) c.args.id.0 c.in-Some.content (sym c.in-Some.ensures) c.in-Mixed.is
