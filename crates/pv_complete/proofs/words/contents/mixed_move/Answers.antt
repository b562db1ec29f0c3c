use Rattle.std.proofs.Common.{arith, inl, map, refl, sym, ◌∙◌}
use Rattle.pv_model.specs.PlainForms.{plain_token}
use Rattle.pv_dtd.proofs.ProperDtds.{proper}
use Rattle.pv_rules.specs.Sites.{content_site}
use Rattle.pv_productive.specs.PlainForms.{dtd_of}
use Rattle.pv_span.specs.Weights.{weight_of}
use Rattle.pv_complete.proofs.SiteMoves.{moves_listed, moves_mixed_none, moves_text}
use Rattle.pv_complete.proofs.OptimalWeights.{content_mixed}
use Rattle.pv_complete.proofs.Spots.{spot_few, spot_site, spot_span, spot_weighs}
use Rattle.pv_complete.proofs.WeightsOfWords.{weights_by}
use Rattle.pv_complete.proofs.words.contents.mixed_move.Goals as goal

pub listed_move-requires-clause-listed : goal.listed_move-requires-clause-listed
listed_move-requires-clause-listed c = let a = c.requires.mixed.2 in let b = c.requires.mixed.3 in omega arith

pub returns-then-spot : goal.returns-then-spot
returns-then-spot c =
    rw c.requires.is (moves_mixed_none (dtd_of c.args.spot.now.weights.grammar.now)
    (map plain_token c.args.spot.now.weights.word.now) (weight_of c.args.spot.now.weights.spans.now)
    (weights_by c.args.spot.now.weights) c.args.spot.now.weights.grammar.now.layout.dtd.known
    (proper c.args.spot.now.weights.grammar.now.layout.dtd).named c.args.spot.now.from
    c.args.spot.now.to (spot_span c.args.spot.now) c.args.id.0 (spot_site c.args.spot.now
    (content_site c.args.id.0) c.requires.is) (spot_few c.args.spot.now (content_site c.args.id.0)
    c.requires.is) c.requires.mixed.0 c.requires.mixed.1 c.if-spot.true)

pub returns-then-is_text_move : goal.returns-then-is_text_move
returns-then-is_text_move c = let k = (rw c.if-is_text_move.true at c.is_text_move.ensures).0 refl
    in rw c.requires.is (moves_text (dtd_of c.args.spot.now.weights.grammar.now)
    (map plain_token c.args.spot.now.weights.word.now) (weight_of c.args.spot.now.weights.spans.now)
    (weights_by c.args.spot.now.weights) c.args.spot.now.weights.grammar.now.layout.dtd.known
    (proper c.args.spot.now.weights.grammar.now.layout.dtd).named c.args.spot.now.from
    c.args.spot.now.to (spot_span c.args.spot.now) c.args.id.0 (spot_site c.args.spot.now
    (content_site c.args.id.0) c.requires.is) (spot_few c.args.spot.now (content_site c.args.id.0)
    c.requires.is) (inl (c.requires.mixed.0, c.requires.mixed.1))
    (let n = c.if-spot.false in let s = c.args.spot.now.span.0 in omega arith) k.0
    (sym (spot_weighs c.args.spot.now (content_site c.args.id.0) c.requires.is) ∙ rw c.requires.is at k.1))

pub returns : goal.returns
returns c = rw c.requires.is (moves_listed (dtd_of c.args.spot.now.weights.grammar.now)
    (map plain_token c.args.spot.now.weights.word.now) (weight_of c.args.spot.now.weights.spans.now)
    (weights_by c.args.spot.now.weights) c.args.spot.now.weights.grammar.now.layout.dtd.known
    (proper c.args.spot.now.weights.grammar.now.layout.dtd).named c.args.spot.now.from
    c.args.spot.now.to (spot_span c.args.spot.now) c.args.id.0 (spot_site c.args.spot.now
    (content_site c.args.id.0) c.requires.is) (spot_few c.args.spot.now (content_site c.args.id.0)
    c.requires.is) c.requires.mixed.0 c.args.spot.now.weight c.in-Some.found c.requires.mixed.1
    (spot_weighs c.args.spot.now (content_site c.args.id.0) c.requires.is)
    (let a = c.requires.mixed.2 in let b = c.requires.mixed.3 in rw (a, b) at c.in-Some.ensures.found))

pub unreachable-requires : goal.unreachable-requires
unreachable-requires c = content_mixed (dtd_of c.args.spot.now.weights.grammar.now)
    (map plain_token c.args.spot.now.weights.word.now) (weight_of c.args.spot.now.weights.spans.now)
    (weights_by c.args.spot.now.weights) c.args.spot.now.weights.grammar.now.layout.dtd.known
    (proper c.args.spot.now.weights.grammar.now.layout.dtd).named c.args.spot.now.from
    c.args.spot.now.to (spot_span c.args.spot.now) c.args.id.0 (spot_site c.args.spot.now
    (content_site c.args.id.0) c.requires.is) (spot_few c.args.spot.now (content_site c.args.id.0)
    c.requires.is) c.requires.mixed.0 c.requires.mixed.1
    (let n = c.if-spot.false in let s = c.args.spot.now.span.0 in omega arith)
    (λ z. let y = (rw c.if-is_text_move.false at c.is_text_move.ensures).1 (
      z.0,
      rw c.requires.is ((spot_weighs c.args.spot.now (content_site c.args.id.0) c.requires.is)
          ∙ z.1),
    ) in absurd cc)
    (let a = c.requires.mixed.2 in let b = c.requires.mixed.3 in rw ((spot_weighs c.args.spot.now (content_site c.args.id.0) c.requires.is), a, b) at c.in_default.ensures.none)
