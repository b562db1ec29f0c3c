use Rattle.std.proofs.Common.{map, refl}
use Rattle.pv_model.specs.PlainForms.{plain_token}
use Rattle.pv_dtd.proofs.ProperDtds.{proper}
use Rattle.pv_rules.specs.Sites.{name_site}
use Rattle.pv_productive.specs.PlainForms.{dtd_of}
use Rattle.pv_span.specs.Weights.{weight_of}
use Rattle.pv_complete.proofs.SiteMoves.{moves_kept, moves_new}
use Rattle.pv_complete.proofs.Spots.{spot_few, spot_site, spot_span}
use Rattle.pv_complete.proofs.WeightsOfWords.{weights_by}
use Rattle.pv_complete.proofs.words.contents.name_move.Goals as goal

pub returns-then-is_element_over : goal.returns-then-is_element_over
returns-then-is_element_over c = let k = rw c.if-is_element_over.true at c.is_element_over.ensures
    in rw c.requires.is (moves_kept (dtd_of c.args.spot.now.weights.grammar.now)
    (map plain_token c.args.spot.now.weights.word.now) (weight_of c.args.spot.now.weights.spans.now)
    (weights_by c.args.spot.now.weights) c.args.spot.now.weights.grammar.now.layout.dtd.known
    (proper c.args.spot.now.weights.grammar.now.layout.dtd).named c.args.spot.now.from
    c.args.spot.now.to (spot_span c.args.spot.now) c.args.id.0 (spot_site c.args.spot.now
    (name_site c.args.id.0) c.requires.is) (k.0 refl).0 (k.0 refl).1)

pub returns-else-is_element_over : goal.returns-else-is_element_over
returns-else-is_element_over c = let k = rw c.if-is_element_over.false at c.is_element_over.ensures
    in rw c.requires.is (moves_new (dtd_of c.args.spot.now.weights.grammar.now)
    (map plain_token c.args.spot.now.weights.word.now) (weight_of c.args.spot.now.weights.spans.now)
    (weights_by c.args.spot.now.weights) c.args.spot.now.weights.grammar.now.layout.dtd.known
    (proper c.args.spot.now.weights.grammar.now.layout.dtd).named c.args.spot.now.from
    c.args.spot.now.to (spot_span c.args.spot.now) c.args.id (spot_site c.args.spot.now
    (name_site c.args.id.0) c.requires.is) (spot_few c.args.spot.now (name_site c.args.id.0)
    c.requires.is) (λ f e. let z = k.1 (f, e) in absurd cc))
